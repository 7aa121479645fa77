-- The terms of a list, each once, and what is sought in a list, one item on.
use Rattle.std.specs.Prelude.{◌≡◌, refl, ℕ, ◌+◌, Bool, true, false, not, Option, Some, None, Vec, List, [], ◌∷◌, ◌++◌, find, flat_map, drop}
use Rattle.std.specs.Option.{option_or}
use Rattle.std.specs.declared.alloc.Global.{Global}
use Rattle.std.specs.List.{list_any}
use Rattle.std.proofs.Common.{ap, sym, ◌∙◌}
use Rattle.std.proofs.lemmas.List.{append-nil}
use Rattle.logic_core.specs.Tree.{Tree}
use Rattle.logic_core.specs.Same.{same_term}
use Rattle.logic_core.specs.Def.{Def}
use Rattle.logic_core.specs.View.{trees_of, patterns_of, each_items}
use Rattle.tableau_branch.specs.Branch.{Fact, Mark, Branch}
use Rattle.tableau_branch.proofs.Lists.{find_append}
use Rattle.logic_rules.specs.Instantiating.{each_once, same_mark, Quantified, Candidate, is_unmarked, candidates_at, candidates_by}

pub once_more : (seen : List Tree) (t : Tree) (ts : List Tree) → each_once seen (t ∷ ts) ≡ each_once (each_once seen (t ∷ [])) ts
once_more seen t ts = at_test (list_any (same_term t) seen) refl
  where
    at_test : (b : Bool) → list_any (same_term t) seen ≡ b → each_once seen (t ∷ ts) ≡ each_once (each_once seen (t ∷ [])) ts
    at_test true e = rw (each_once, e) refl
    at_test false e = rw (each_once, e) refl

-- an item that isn't sought is passed over, and one that is is found
pub find_past : {A : Type 0} (p : A → Bool) (x : A) (xs : List A) → p x ≡ false → find p (x ∷ xs) ≡ find p xs
find_past p x xs h = rw h refl

pub find_here : {A : Type 0} (p : A → Bool) (x : A) (xs : List A) → p x ≡ true → find p (x ∷ xs) ≡ Some x
find_here p x xs h = rw h refl

-- nothing stands after the list
pub find_alone : {A : Type 0} (p : A → Bool) (xs : List A) → find p (xs ++ []) ≡ find p xs
find_alone p xs = ap (find p) (append-nil xs)

-- whether there is no mark of a fact and a tuple, by equal ones
pub unmarked_by : (ms : List Mark) (t u : Tree) (xs ys : List Tree) (r s : Bool) → t ≡ u → xs ≡ ys → r ≡ not (list_any (λ (m : Mark). same_mark m (record { fact = t; tuple = xs })) ms) → r ≡ s
    → not (list_any (λ (m : Mark). same_mark m (record { fact = u; tuple = ys })) ms) ≡ s
unmarked_by ms t u xs ys r s e h is so = sym (is ∙ (λ i. not (list_any (λ (m : Mark). same_mark m (record { fact = e i; tuple = h i })) ms))) ∙ so

-- what is found in the list of the first of some things, and else in those of the others
module _ {A : Type 0} (p : Candidate → Bool) (f : A → List Candidate) (rest : List A → List Candidate) where
  taken : (x : A) (xs : List A) (o : Option Candidate) (y : Candidate) → o ≡ find p (f x) → o ≡ Some y → find p (f x ++ rest xs) ≡ Some y
  taken x xs o y found is = find_append p (f x) (rest xs) ∙ ap (λ q. option_or q (find p (rest xs))) (sym found ∙ is)

  passed : (x : A) (xs : List A) (o : Option Candidate) → o ≡ find p (f x) → o ≡ None → find p (f x ++ rest xs) ≡ find p (rest xs)
  passed x xs o found is = find_append p (f x) (rest xs) ∙ ap (λ q. option_or q (find p (rest xs))) (sym found ∙ is)

module _ (p : Candidate → Bool) (f : Fact → List Candidate) (fs : List Fact) (i : ℕ) (x : Fact) (o : Option Candidate) (next : drop i fs ≡ x ∷ drop (i + 1) fs) (found : o ≡ find p (f x)) where
  -- found at this fact
  pub fact_taken : (y : Candidate) → o ≡ Some y → find p (flat_map f (drop i fs)) ≡ Some y
  fact_taken y is = ap (λ gs. find p (flat_map f gs)) next ∙ taken p f (flat_map f) x (drop (i + 1) fs) o y found is

  pub fact_passed : o ≡ None → find p (flat_map f (drop (i + 1) fs)) ≡ find p (flat_map f (drop i fs))
  fact_passed is = sym (ap (λ gs. find p (flat_map f gs)) next ∙ passed p f (flat_map f) x (drop (i + 1) fs) o found is)

module _ (d : List Def) (b : Branch) (terms : List Tree) (f : Fact) (q : Quantified) (vs : List (Vec Tree Global)) (i : ℕ) (v : Vec Tree Global) (us : List Tree) (o : Option Candidate)
    (next : drop i vs ≡ v ∷ drop (i + 1) vs) (same : us ≡ v.items) (found : o ≡ find (is_unmarked b) (candidates_at d b terms f q.sorts q.body (trees_of us))) where
  -- found at this trigger
  pub trigger_taken : (y : Candidate) → o ≡ Some y → find (is_unmarked b) (candidates_by d b terms f q (patterns_of (each_items (drop i vs)))) ≡ Some y
  trigger_taken y is = ap (λ ws. find (is_unmarked b) (candidates_by d b terms f q (patterns_of (each_items ws)))) next
      ∙ taken (is_unmarked b) (λ (w : Vec Tree Global). candidates_at d b terms f q.sorts q.body (trees_of w.items)) (λ ws. candidates_by d b terms f q (patterns_of (each_items ws))) v (drop (i + 1) vs) o y
      (found ∙ ap (λ ts. find (is_unmarked b) (candidates_at d b terms f q.sorts q.body (trees_of ts))) same) is

  pub trigger_passed : o ≡ None → find (is_unmarked b) (candidates_by d b terms f q (patterns_of (each_items (drop (i + 1) vs)))) ≡ find (is_unmarked b) (candidates_by d b terms f q (patterns_of (each_items (drop i vs))))
  trigger_passed is = sym (ap (λ ws. find (is_unmarked b) (candidates_by d b terms f q (patterns_of (each_items ws)))) next
      ∙ passed (is_unmarked b) (λ (w : Vec Tree Global). candidates_at d b terms f q.sorts q.body (trees_of w.items)) (λ ws. candidates_by d b terms f q (patterns_of (each_items ws))) v (drop (i + 1) vs) o
      (found ∙ ap (λ ts. find (is_unmarked b) (candidates_at d b terms f q.sorts q.body (trees_of ts))) same) is)
