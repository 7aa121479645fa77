-- An obligation whose numbers are canonical is its own canonical obligation.
use Rattle.std.specs.Prelude.{◌≡◌, refl, ℕ, zero, suc, ◌+◌, ◌<◌, ◌≤◌, nat_eq, Bool, true, false, cond, unwrap_or, Some, List, [], ◌∷◌, ◌++◌, map, length, reverse, take, slice_get}
use Rattle.std.specs.List.{AllByRecursion, cons_option, position_from}
use Rattle.std.proofs.Common.{ap, sym, arith, ◌∙◌}
use Rattle.std.proofs.lemmas.Bool.{eqb-true, eqb-false}
use Rattle.std.proofs.lemmas.List.{length-append}
use mathlib.Core.List.{append_assoc}
use Rattle.logic_core.specs.Tree.{Tree, num, truth, free, bound, linear, mul, read, write, choose, call, negation, all, some, equal, at_most, for_all, exists, Trees, no_trees, tree, Parts, no_parts, part, Patterns, no_patterns, pattern}
use Rattle.logic_core.specs.Def.{Def, Obligation}
use Rattle.logic_core.specs.WellSorted.{IsWellSorted}
use Rattle.logic_core.specs.Renamed.{both_renamed, each_both_renamed, parts_both_renamed, patterns_both_renamed, def_renamed, EachHas, EachInTrees, EachInParts, EachInPatterns}
use Rattle.logic_core.specs.Variables.{place_in}
use Rattle.logic_laws.proofs.SortedNumbers.{HasVariable, HasDefinition, mentions_there, there_in_front, body_is_sorted}
use Rattle.obligation_text.specs.Numbering.{definition_order, variable_order, up_from, up_to}
use Rattle.obligation_text.specs.Canonical.{picked, renumbered, CanonicalStays}
use Rattle.obligation_text.proofs.CanonicalRenames.{there_below, formulas_mention}

-- a term stays where each number in it does
module _ (new_def new_var : ℕ → ℕ) (V C : ℕ → Type 0) (var_stays : (v : ℕ) → V v → new_var v ≡ v) (def_stays : (f : ℕ) → C f → new_def f ≡ f) where
  mutual
    pub term_stays : (t : Tree) → EachHas V C t → both_renamed new_def new_var t ≡ t
    term_stays (num n) h = refl
    term_stays (truth x) h = refl
    term_stays (free v) h = ap free (var_stays v h)
    term_stays (bound v) h = refl
    term_stays (linear ps c) h = λ i. linear (parts_stay ps h i) c
    term_stays (mul x y) h = λ i. mul (term_stays x h.0 i) (term_stays y h.1 i)
    term_stays (read x y) h = λ i. read (term_stays x h.0 i) (term_stays y h.1 i)
    term_stays (write x y z) h = λ i. write (term_stays x h.0 i) (term_stays y h.1 i) (term_stays z h.2 i)
    term_stays (choose x y z) h = λ i. choose (term_stays x h.0 i) (term_stays y h.1 i) (term_stays z h.2 i)
    term_stays (call f ts) h = λ i. call (def_stays f h.0 i) (trees_stay ts h.1 i)
    term_stays (negation x) h = λ i. negation (term_stays x h i)
    term_stays (all ts) h = λ i. all (trees_stay ts h i)
    term_stays (some ts) h = λ i. some (trees_stay ts h i)
    term_stays (equal x y) h = λ i. equal (term_stays x h.0 i) (term_stays y h.1 i)
    term_stays (at_most x y) h = λ i. at_most (term_stays x h.0 i) (term_stays y h.1 i)
    term_stays (for_all ss ps t) h = λ i. for_all ss (patterns_stay ps h.0 i) (term_stays t h.1 i)
    term_stays (exists ss ps t) h = λ i. exists ss (patterns_stay ps h.0 i) (term_stays t h.1 i)

    trees_stay : (ts : Trees) → EachInTrees V C ts → each_both_renamed new_def new_var ts ≡ ts
    trees_stay no_trees h = refl
    trees_stay (tree t ts) h = λ i. tree (term_stays t h.0 i) (trees_stay ts h.1 i)

    parts_stay : (ps : Parts) → EachInParts V C ps → parts_both_renamed new_def new_var ps ≡ ps
    parts_stay no_parts h = refl
    parts_stay (part k t ps) h = λ i. part k (term_stays t h.0 i) (parts_stay ps h.1 i)

    patterns_stay : (ps : Patterns) → EachInPatterns V C ps → patterns_both_renamed new_def new_var ps ≡ ps
    patterns_stay no_patterns h = refl
    patterns_stay (pattern ts ps) h = λ i. pattern (trees_stay ts h.0 i) (patterns_stay ps h.1 i)

  terms_stay : (ts : List Tree) → AllByRecursion (EachHas V C) ts → map (both_renamed new_def new_var) ts ≡ ts
  terms_stay [] h = refl
  terms_stay (t ∷ ts) h = λ i. term_stays t h.0 i ∷ terms_stay ts h.1 i

-- a number below n stands at itself in 0, 1 .. below n
stands_at : (a n v : ℕ) → a ≤ v → v < a + n → position_from (nat_eq v) a (up_from a n) ≡ Some v
stands_at a zero v low high = absurd (omega (low, high, arith))
stands_at a (suc n) v low high = by_test (nat_eq v a) refl (λ apart. stands_at (a + 1) n v (omega (low, apart, arith)) (omega (high, arith)))
  where
    by_test : (b : Bool) → nat_eq v a ≡ b → ((v ≡ a → ⊥) → position_from (nat_eq v) (a + 1) (up_from (a + 1) n) ≡ Some v) → cond b (Some a) (position_from (nat_eq v) (a + 1) (up_from (a + 1) n)) ≡ Some v
    by_test true e rest = ap Some (sym (eqb-true v a e))
    by_test false e rest = rest (eqb-false v a e)

place_stays : (n v : ℕ) → v < n → place_in (up_to n) v ≡ v
place_stays n v below = ap (λ o. unwrap_or o 0) (stands_at 0 n v (omega arith) (omega (below, arith)))

-- by 0, 1 .. all items are picked
after : {A : Type 0} (front : List A) (x : A) (items : List A) → slice_get (front ++ x ∷ items) (length front) ≡ Some x
after [] x items = refl
after (y ∷ front) x items = after front x items

all_picked_after : {A : Type 0} (front items : List A) → picked (front ++ items) (up_from (length front) (length items)) ≡ items
all_picked_after front [] = refl
all_picked_after front (x ∷ items) =
    let longer : length front + 1 ≡ length (front ++ x ∷ []) = omega (arith, length-append front (x ∷ [])) in
    ap (λ o. cons_option o (picked (front ++ x ∷ items) (up_from (length front + 1) (length items)))) (after front x items)
    ∙ (λ i. x ∷ picked (sym (append_assoc front (x ∷ []) items) i) (up_from (longer i) (length items)))
    ∙ ap (λ xs. x ∷ xs) (all_picked_after (front ++ x ∷ []) items)

all_picked : {A : Type 0} (items : List A) → picked items (up_to (length items)) ≡ items
all_picked items = all_picked_after [] items

each_stays : {A : Type 0} (g : A → A) (xs : List A) → ((i : ℕ) (x : A) → slice_get xs i ≡ Some x → g x ≡ x) → map g xs ≡ xs
each_stays g [] h = refl
each_stays g (x ∷ xs) h = λ j. h zero x refl j ∷ each_stays g xs (λ i y e. h (suc i) y e) j

module _ (o : Obligation) (sorted : IsWellSorted o) where
  abbrev new_def : ℕ → ℕ
  new_def = place_in (up_to (length o.defs))

  abbrev new_var : ℕ → ℕ
  new_var = place_in (up_to (length o.vars))

  var_stays : (v : ℕ) → HasVariable o.vars o.defs v → new_var v ≡ v
  var_stays v there = place_stays (length o.vars) v (there_below o.vars v there)

  def_stays : (f : ℕ) → HasDefinition o.vars o.defs f → new_def f ≡ f
  def_stays f there = place_stays (length o.defs) f (there_below o.defs f there)

  same_def : (f : ℕ) (d : Def) → slice_get o.defs f ≡ Some d → def_renamed new_def new_var d ≡ d
  same_def f d e =
      let body = term_stays new_def new_var (HasVariable o.vars (take f o.defs)) (HasDefinition o.vars (take f o.defs)) var_stays (λ g there. def_stays g (there_in_front o.defs f g there).1) d.body
      (mentions_there o.vars (take f o.defs) d.body (reverse d.params) (body_is_sorted o.vars o.defs f d sorted.definitions e)) in
      λ i. record { params = d.params; sort = d.sort; logical = d.logical; body = body i }

  in_order_stays : renumbered new_def new_var (up_to (length o.defs)) (up_to (length o.vars)) o ≡ o
  in_order_stays =
      let vars = all_picked o.vars in
      let defs = ap (map (def_renamed new_def new_var)) (all_picked o.defs) ∙ each_stays (def_renamed new_def new_var) o.defs same_def in
      let axioms = terms_stay new_def new_var (HasVariable o.vars o.defs) (HasDefinition o.vars o.defs) var_stays def_stays o.axioms (formulas_mention o sorted).1 in
      let goal = term_stays new_def new_var (HasVariable o.vars o.defs) (HasDefinition o.vars o.defs) var_stays def_stays o.goal (formulas_mention o sorted).0 in
      λ i. record { vars = vars i; defs = defs i; axioms = axioms i; goal = goal i }

pub canonical_stays : CanonicalStays
canonical_stays o sorted h =
    let named : variable_order o (definition_order o) ≡ up_to (length o.vars) = ap (variable_order o) h.definitions ∙ h.variables in
    (λ i. renumbered (place_in (h.definitions i)) (place_in (named i)) (h.definitions i) (named i) o)
    ∙ in_order_stays o sorted
