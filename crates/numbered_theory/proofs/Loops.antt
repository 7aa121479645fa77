-- Loops that try one item after another, over lists of numbers, and faults that are returned.
use Rattle.std.proofs.Common.{◌≡◌, refl, sym, ap, ◌∙◌, ℕ, ◌+◌, ◌<◌, Option, Some, None, Result, Ok, Err, List, ◌∷◌, map, length, drop, get_or}
use Rattle.std.specs.Result.{IsErrAnd}
use Rattle.logic_core.specs.declared.fault.NormalFault.{NormalFault}
use Rattle.tableau_branch.specs.Branch.{Attempt, none}
use Rattle.tableau_branch.proofs.Lists.{drop_item}
use Rattle.theory_rules.specs.Condition.{first_some}
use Rattle.theory_rules.proofs.Attempting.{IsTaken, or_else, or_else_taken}

-- the same fault is returned
pub from_err : {A : Type 0} (R : Result A NormalFault → Type 0) (r : Result A NormalFault) (e : NormalFault) → IsErrAnd r (λ d. d ≡ e) → ((d : NormalFault) → d ≡ e → R (Err d)) → R r
from_err R (Ok a) e h k = absurd h
from_err R (Err d) e h k = k d h

-- what comes of the first item, and where that is passed over of the others
module _ {X B : Type 0} (all : List X → Attempt B) (one : X → Attempt B) (step : (x : X) (xs : List X) → all (x ∷ xs) ≡ or_else (one x) (all xs)) where
  pub passed : (xs : List X) (i : ℕ) (x : X) (whole : Attempt B) → i < length xs → x ≡ get_or xs i x → one x ≡ none → all (drop i xs) ≡ whole → all (drop (i + 1) xs) ≡ whole
  passed xs i x whole l e h g = sym (ap all (drop_item xs i x l e) ∙ step x (drop (i + 1) xs) ∙ ap (λ y. or_else y (all (drop (i + 1) xs))) h) ∙ g

  pub taken : (xs : List X) (i : ℕ) (x : X) (whole y : Attempt B) → i < length xs → x ≡ get_or xs i x → IsTaken y → one x ≡ y → all (drop i xs) ≡ whole → whole ≡ y
  taken xs i x whole y l e t h g = sym g ∙ ap all (drop_item xs i x l e) ∙ step x (drop (i + 1) xs) ∙ ap (λ z. or_else z (all (drop (i + 1) xs))) h ∙ or_else_taken y (all (drop (i + 1) xs)) t

-- the same of options
abbrev pub or_some : {A : Type 0} → Option A → Option A → Option A
or_some None y = y
or_some (Some a) y = Some a

pub some_first : {A B : Type 0} (f : A → Option B) (a : A) (xs : List A) → first_some f (a ∷ xs) ≡ or_some (f a) (first_some f xs)
some_first {A} {B} f a xs = at_first (f a) (first_some f xs)
  where
    at_first : (x y : Option B) → ◌≡◌ {A = Option B} (elim x [ None ↦ y | Some b ↦ Some b ]) (or_some x y)
    at_first None y = refl
    at_first (Some b) y = refl

-- the first of the items in which something is found
module _ {X A B : Type 0} (test : A → Option B) (of : X → A) (xs : List X) (i : ℕ) (x : X) (whole : Option B) (l : i < length xs) (e : x ≡ get_or xs i x) where
  some_step : first_some test (map of (drop i xs)) ≡ or_some (test (of x)) (first_some test (map of (drop (i + 1) xs)))
  some_step = ap (λ ys. first_some test (map of ys)) (drop_item xs i x l e) ∙ some_first test (of x) (map of (drop (i + 1) xs))

  pub some_passed : test (of x) ≡ None → first_some test (map of (drop i xs)) ≡ whole → first_some test (map of (drop (i + 1) xs)) ≡ whole
  some_passed h g = sym (some_step ∙ ap (λ y. or_some y (first_some test (map of (drop (i + 1) xs)))) h) ∙ g

  pub some_taken : (y : B) → test (of x) ≡ Some y → first_some test (map of (drop i xs)) ≡ whole → whole ≡ Some y
  some_taken y h g = sym g ∙ some_step ∙ ap (λ z. or_some z (first_some test (map of (drop (i + 1) xs)))) h
