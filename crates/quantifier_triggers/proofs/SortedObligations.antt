-- A well-sorted obligation is well sorted with chosen triggers.
use Rattle.std.specs.Prelude.{◌≡◌, refl, ℕ, zero, suc, ◌&&◌, List, [], ◌∷◌, ◌++◌, map, reverse, slice_get, slice_index_or, Option, Some}
use Rattle.std.proofs.lemmas.List.{map-append}
use Rattle.std.proofs.lemmas.List.Elements.{All-map}
use mathlib.Core.Path.{◌∙◌, sym}
use Rattle.logic_core.specs.Tree.{Kind, int, boolean, Tree, num, truth, free, bound, linear, mul, read, write, choose, call, negation, all, some, equal, at_most, for_all, exists, Trees, no_trees, tree, Parts, no_parts, part, Patterns, no_patterns, pattern}
use Rattle.logic_core.specs.Def.{Def, Obligation}
use Rattle.logic_core.specs.Same.{is_some_and}
use Rattle.logic_core.specs.Wide.{◌>>=◌, when}
use Rattle.logic_core.specs.Sorts.{is, range, sort_of, are, are_formulas, are_ints, have_sorts, have_sorts_in, bodies_sorted}
use Rattle.logic_core.specs.WellSorted.{IsFormula, IsWellSorted}
use Rattle.quantifier_triggers.specs.Choice.{with_triggers, def_with_triggers, obligation_with_triggers}
use Rattle.quantifier_triggers.proofs.SameSort.{same_sort}

-- what a test says of the definition of a number, by its parameters and its sort, the two lists of definitions say alike
abbrev SameHeads : List Def → List Def → Type 0
SameHeads defs defs' = (f : ℕ) (g : List Kind → Kind → Option Kind) → (slice_get defs' f >>= λ d. g d.params d.sort) ≡ (slice_get defs f >>= λ d. g d.params d.sort)

module _ (vars : List Kind) (defs defs' : List Def) (heads : SameHeads defs defs') where
  mutual
    by_heads : (t : Tree) (b : List Kind) → sort_of vars defs' b t ≡ sort_of vars defs b t
    by_heads (num n) b = refl
    by_heads (truth x) b = refl
    by_heads (free v) b = refl
    by_heads (bound v) b = refl
    by_heads (linear ps c) b = λ j. when (ints_by_heads ps b j) (Some int)
    by_heads (mul x y) b = λ j. when (is int (by_heads x b j) && is int (by_heads y b j)) (Some int)
    by_heads (read m i) b = λ j. by_heads m b j >>= λ s. range s >>= λ r. when (is int (by_heads i b j)) (Some r)
    by_heads (write m i x) b = λ j. by_heads m b j >>= λ s. range s >>= λ r. when (is int (by_heads i b j) && is r (by_heads x b j)) (Some s)
    by_heads (choose c x y) b = λ j. by_heads x b j >>= λ s. when (is boolean (by_heads c b j) && is s (by_heads y b j)) (Some s)
    by_heads (call f ts) b =
        let inside : (slice_get defs' f >>= λ d. when (are vars defs' b d.params ts) (Some d.sort)) ≡ (slice_get defs' f >>= λ d. when (are vars defs b d.params ts) (Some d.sort))
        = λ j. slice_get defs' f >>= λ d. when (are_by_heads ts b d.params j) (Some d.sort) in
        inside ∙ heads f (λ ks k. when (are vars defs b ks ts) (Some k))
    by_heads (negation x) b = λ j. when (is boolean (by_heads x b j)) (Some boolean)
    by_heads (all ts) b = λ j. when (formulas_by_heads ts b j) (Some boolean)
    by_heads (some ts) b = λ j. when (formulas_by_heads ts b j) (Some boolean)
    by_heads (equal x y) b = λ j. by_heads x b j >>= λ s. when (is s (by_heads y b j)) (Some boolean)
    by_heads (at_most x y) b = λ j. when (is int (by_heads x b j) && is int (by_heads y b j)) (Some boolean)
    by_heads (for_all ss ps t) b = λ j. when (patterns_by_heads ps (reverse ss ++ b) j && is boolean (by_heads t (reverse ss ++ b) j)) (Some boolean)
    by_heads (exists ss ps t) b = λ j. when (patterns_by_heads ps (reverse ss ++ b) j && is boolean (by_heads t (reverse ss ++ b) j)) (Some boolean)

    are_by_heads : (ts : Trees) (b ks : List Kind) → are vars defs' b ks ts ≡ are vars defs b ks ts
    are_by_heads no_trees b [] = refl
    are_by_heads no_trees b (k ∷ ks) = refl
    are_by_heads (tree t ts) b [] = refl
    are_by_heads (tree t ts) b (k ∷ ks) = λ j. is k (by_heads t b j) && are_by_heads ts b ks j

    formulas_by_heads : (ts : Trees) (b : List Kind) → are_formulas vars defs' b ts ≡ are_formulas vars defs b ts
    formulas_by_heads no_trees b = refl
    formulas_by_heads (tree t ts) b = λ j. is boolean (by_heads t b j) && formulas_by_heads ts b j

    ints_by_heads : (ps : Parts) (b : List Kind) → are_ints vars defs' b ps ≡ are_ints vars defs b ps
    ints_by_heads no_parts b = refl
    ints_by_heads (part k t ps) b = λ j. is int (by_heads t b j) && ints_by_heads ps b j

    terms_by_heads : (ts : Trees) (b : List Kind) → have_sorts vars defs' b ts ≡ have_sorts vars defs b ts
    terms_by_heads no_trees b = refl
    terms_by_heads (tree t ts) b = λ j. is_some_and (by_heads t b j) (λ s. terms_by_heads ts b j)

    patterns_by_heads : (ps : Patterns) (b : List Kind) → have_sorts_in vars defs' b ps ≡ have_sorts_in vars defs b ps
    patterns_by_heads no_patterns b = refl
    patterns_by_heads (pattern ts ps) b = λ j. terms_by_heads ts b j && patterns_by_heads ps b j

-- definitions with chosen triggers have the heads that they had
chosen_heads : (given defs : List Def) → SameHeads defs (map (def_with_triggers given) defs)
chosen_heads given [] f g = refl
chosen_heads given (d ∷ ds) zero g = refl
chosen_heads given (d ∷ ds) (suc f) g = chosen_heads given ds f g

chosen_sort : (vars : List Kind) (given defs : List Def) (t : Tree) (b : List Kind) → sort_of vars (map (def_with_triggers given) defs) b (with_triggers given t) ≡ sort_of vars defs b t
chosen_sort vars given defs t b = by_heads vars defs (map (def_with_triggers given) defs) (chosen_heads given defs) (with_triggers given t) b ∙ same_sort vars defs given t b

chosen_bodies : (vars : List Kind) (given below ds : List Def) → bodies_sorted vars (map (def_with_triggers given) below) (map (def_with_triggers given) ds) ≡ bodies_sorted vars below ds
chosen_bodies vars given below [] = refl
chosen_bodies vars given below (d ∷ ds) =
    let one_more : bodies_sorted vars (map (def_with_triggers given) below ++ def_with_triggers given d ∷ []) (map (def_with_triggers given) ds)
    ≡ bodies_sorted vars (map (def_with_triggers given) (below ++ d ∷ [])) (map (def_with_triggers given) ds)
    = λ j. bodies_sorted vars (sym (map-append (def_with_triggers given) below (d ∷ [])) j) (map (def_with_triggers given) ds) in
    let rest = one_more ∙ chosen_bodies vars given (below ++ d ∷ []) ds in
    λ j. is d.sort (chosen_sort vars given below d.body (reverse d.params) j) && rest j

pub stays_sorted : (o : Obligation) → IsWellSorted o → IsWellSorted (obligation_with_triggers o)
stays_sorted o s = record {
  definitions = chosen_bodies o.vars o.defs [] o.defs ∙ s.definitions;
  axioms = All-map (IsFormula o.vars (obligation_with_triggers o).defs) (with_triggers o.defs) o.axioms (λ i d below. chosen_sort o.vars o.defs o.defs (slice_index_or o.axioms i d) [] ∙ s.axioms i d below);
  goal = chosen_sort o.vars o.defs o.defs o.goal [] ∙ s.goal;
}
