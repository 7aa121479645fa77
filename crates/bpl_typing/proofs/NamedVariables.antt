-- A variable is among those that a term names exactly where it occurs in the term, and what no such variable is.
use Rattle.std.proofs.Common.{◌≡◌, ◌∙◌, refl, sym, ap, subst, ℕ, nat_eq, eq-eqb, Bool, true, ◌||◌, not, List, [], ◌∷◌, ◌++◌, ◌↔◌}
use Rattle.std.specs.Prelude.{Contains}
use Rattle.std.specs.List.{list_any}
use Rattle.std.proofs.lemmas.List.Folds.{Any-from_list_any, list_any-from_Any}
use Rattle.std.proofs.lemmas.Bool.{both_ways, not-true, not_from_false, false_from_ne_true, eqb-true}
use Rattle.logic_core.proofs.Booleans.{or_false, or_assoc}
use Rattle.logic_core.specs.Tree.{Tree, num, truth, free, bound, linear, mul, read, write, choose, call, negation, all, some, equal, at_most, for_all, exists, Trees, no_trees, tree, Parts, no_parts, part, Patterns, no_patterns, pattern}
use Rattle.logic_core.specs.Same.{same_term}
use Rattle.logic_core.specs.Subterm.{has_any, has_part, has_pattern, occurs}
use Rattle.logic_core.specs.Variables.{variables, variables_of_each, variables_of_parts, variables_of_patterns}
use Rattle.flow_core.specs.Reading.{Mentions}

-- an item that passes a test
pub passing : {X : Type 0} (p : X → Bool) (xs : List X) → list_any p xs ≡ true → (x : X) × Contains xs x × (p x ≡ true)
passing p xs h = let e = Any-from_list_any p xs h in (e.1, (e.0, e.2, e.3), e.4)

pub any_passes : {X : Type 0} (p : X → Bool) (xs : List X) (x : X) → Contains xs x → p x ≡ true → list_any p xs ≡ true
any_passes p xs x m h = list_any-from_Any p xs (m.0, x, m.1, m.2, h)

-- of two lists one after another
any_of_both : (p : ℕ → Bool) (xs ys : List ℕ) → list_any p (xs ++ ys) ≡ (list_any p xs || list_any p ys)
any_of_both p [] ys = refl
any_of_both p (x ∷ xs) ys = ap (λ r. p x || r) (any_of_both p xs ys) ∙ sym (or_assoc (p x) (list_any p xs) (list_any p ys))

module _ (v : ℕ) where
  abbrev among : List ℕ → Bool
  among xs = list_any (nat_eq v) xs

  -- where each of two parts is named exactly where the variable occurs in it, so are both
  two : (xs ys : List ℕ) (a b : Bool) → among xs ≡ a → among ys ≡ b → among (xs ++ ys) ≡ (a || b)
  two xs ys a b e f = any_of_both (nat_eq v) xs ys ∙ (λ i. e i || f i)

  mutual
    pub named : (t : Tree) → among (variables t) ≡ occurs (free v) t
    named (num n) = refl
    named (truth b) = refl
    named (free w) = or_false (nat_eq v w)
    named (bound w) = refl
    named (linear ps c) = named_in_parts ps
    named (mul x y) = two (variables x) (variables y) (occurs (free v) x) (occurs (free v) y) (named x) (named y)
    named (read x y) = two (variables x) (variables y) (occurs (free v) x) (occurs (free v) y) (named x) (named y)
    named (write x y z) = two (variables x) (variables y ++ variables z) (occurs (free v) x) (occurs (free v) y || occurs (free v) z) (named x) (two (variables y) (variables z) (occurs (free v) y) (occurs (free v) z) (named y) (named z))
    named (choose x y z) = two (variables x) (variables y ++ variables z) (occurs (free v) x) (occurs (free v) y || occurs (free v) z) (named x) (two (variables y) (variables z) (occurs (free v) y) (occurs (free v) z) (named y) (named z))
    named (call f ts) = named_in_each ts
    named (negation x) = named x
    named (all ts) = named_in_each ts
    named (some ts) = named_in_each ts
    named (equal x y) = two (variables x) (variables y) (occurs (free v) x) (occurs (free v) y) (named x) (named y)
    named (at_most x y) = two (variables x) (variables y) (occurs (free v) x) (occurs (free v) y) (named x) (named y)
    named (for_all ss ps t) = two (variables_of_patterns ps) (variables t) (has_pattern (same_term (free v)) ps) (occurs (free v) t) (named_in_patterns ps) (named t)
    named (exists ss ps t) = two (variables_of_patterns ps) (variables t) (has_pattern (same_term (free v)) ps) (occurs (free v) t) (named_in_patterns ps) (named t)

    named_in_each : (ts : Trees) → among (variables_of_each ts) ≡ has_any (same_term (free v)) ts
    named_in_each no_trees = refl
    named_in_each (tree t ts) = two (variables t) (variables_of_each ts) (occurs (free v) t) (has_any (same_term (free v)) ts) (named t) (named_in_each ts)

    named_in_parts : (ps : Parts) → among (variables_of_parts ps) ≡ has_part (same_term (free v)) ps
    named_in_parts no_parts = refl
    named_in_parts (part k t ps) = two (variables t) (variables_of_parts ps) (occurs (free v) t) (has_part (same_term (free v)) ps) (named t) (named_in_parts ps)

    named_in_patterns : (ps : Patterns) → among (variables_of_patterns ps) ≡ has_pattern (same_term (free v)) ps
    named_in_patterns no_patterns = refl
    named_in_patterns (pattern ts ps) = two (variables_of_each ts) (variables_of_patterns ps) (has_any (same_term (free v)) ts) (has_pattern (same_term (free v)) ps) (named_in_each ts) (named_in_patterns ps)

-- no variable of the term passes a test exactly where it mentions none of which the test speaks
pub none_mentioned : (test : ℕ → Bool) (P : ℕ → Type 0) → ((v : ℕ) → (test v ≡ true) ↔ P v) → (t : Tree) → (not (list_any test (variables t)) ≡ true) ↔ ((v : ℕ) → P v → ¬ Mentions t v)
none_mentioned test P is t = (
  (λ h v holds there.
      let e = passing (nat_eq v) (variables t) (named v t ∙ there) in
      let x : test e.0 ≡ true = subst (λ n. test n ≡ true) (eqb-true v e.0 e.2) ((is v).1 holds) in
      both_ways (list_any test (variables t)) (not-true (list_any test (variables t)) h) (any_passes test (variables t) e.0 e.1 x)),
  (λ f. not_from_false (list_any test (variables t)) (false_from_ne_true (list_any test (variables t)) (λ h.
      let e = passing test (variables t) h in
      f e.0 ((is e.0).0 e.2) (sym (named e.0 t) ∙ any_passes (nat_eq e.0) (variables t) e.0 e.1 (eq-eqb e.0 e.0 refl))))),
)
