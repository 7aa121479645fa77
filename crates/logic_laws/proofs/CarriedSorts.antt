-- Where the parts of a term are changed and keep their sorts, the term keeps its own; also over other variables, definitions and binders.
-- Here f, g and h carry the sorts of the parts, s is the sort of the term, p the sorts of its parts.
use Rattle.std.proofs.Common.{◌≡◌, refl, sym, subst, ℕ, ℤ, true, ◌&&◌, Some, List, [], ◌∷◌, ◌++◌, reverse, slice_get}
use Rattle.logic_core.proofs.Booleans.{both_true, all_true}
use Rattle.logic_core.specs.Tree.{Kind, int, boolean, map, Tree, linear, mul, read, write, choose, call, negation, all, some, equal, at_most, for_all, Trees, no_trees, tree, Parts, part, Patterns, pattern}
use Rattle.logic_core.specs.Def.{Def}
use Rattle.logic_core.specs.Sorts.{is, sort_of, are, are_formulas, are_ints, have_sorts, have_sorts_in}
use Rattle.logic_laws.proofs.Options.{when_some, when_true}
use Rattle.logic_laws.proofs.SortTests.{sort_is}
use Rattle.logic_laws.proofs.SumSorts.{first_int, mul_sort, at_most_sort}
use Rattle.logic_laws.proofs.FormulaSorts.{first_formula, one_more_formula, part_of_negation, negation_sort, parts_of_at_most, parts_of_equal, equal_sort, choose_sort, parts_of_quantifier, quantifier_sort}
use Rattle.logic_laws.proofs.NormalSorts.{parts_of_mul, parts_of_read, read_sort, parts_of_write, write_sort, parts_of_choose, parts_of_call, call_sort, first_of_sort, some_sort, sort_some}

module _ (vars : List Kind) (defs : List Def) (vars' : List Kind) (defs' : List Def) where
  -- u has each sort of t
  abbrev pub Carries : List Kind → List Kind → Tree → Tree → Type 0
  Carries b b' t u = (k : Kind) → sort_of vars defs b t ≡ Some k → sort_of vars' defs' b' u ≡ Some k

  abbrev pub CarriesEach : List Kind → List Kind → Trees → Trees → Type 0
  CarriesEach b b' ts us = (ks : List Kind) → are vars defs b ks ts ≡ true → are vars' defs' b' ks us ≡ true

  abbrev pub CarriesFormulas : List Kind → List Kind → Trees → Trees → Type 0
  CarriesFormulas b b' ts us = are_formulas vars defs b ts ≡ true → are_formulas vars' defs' b' us ≡ true

  abbrev pub CarriesInts : List Kind → List Kind → Parts → Parts → Type 0
  CarriesInts b b' ps qs = are_ints vars defs b ps ≡ true → are_ints vars' defs' b' qs ≡ true

  abbrev pub CarriesSorts : List Kind → List Kind → Trees → Trees → Type 0
  CarriesSorts b b' ts us = have_sorts vars defs b ts ≡ true → have_sorts vars' defs' b' us ≡ true

  abbrev pub CarriesPatterns : List Kind → List Kind → Patterns → Patterns → Type 0
  CarriesPatterns b b' ps qs = have_sorts_in vars defs b ps ≡ true → have_sorts_in vars' defs' b' qs ≡ true

  module _ (b b' : List Kind) where
    pub carries_linear : (ps qs : Parts) (c : ℤ) → CarriesInts b b' ps qs → Carries b b' (linear ps c) (linear qs c)
    carries_linear ps qs c f k s = let w = when_some (are_ints vars defs b ps) int k s in subst (λ j. sort_of vars' defs' b' (linear qs c) ≡ Some j) w.1 (when_true (are_ints vars' defs' b' qs) (Some int) (f w.0))

    pub carries_mul : (x y u v : Tree) → Carries b b' x u → Carries b b' y v → Carries b b' (mul x y) (mul u v)
    carries_mul x y u v f g k s = let p = parts_of_mul vars defs x y b k s in subst (λ j. sort_of vars' defs' b' (mul u v) ≡ Some j) p.2 (mul_sort vars' defs' u v b' (f int p.0) (g int p.1))

    pub carries_read : (x y u v : Tree) → Carries b b' x u → Carries b b' y v → Carries b b' (read x y) (read u v)
    carries_read x y u v f g k s = let p = parts_of_read vars defs x y b k s in read_sort vars' defs' u v b' k (f (map k) p.0) (g int p.1)

    pub carries_write : (x y z u v w : Tree) → Carries b b' x u → Carries b b' y v → Carries b b' z w → Carries b b' (write x y z) (write u v w)
    carries_write x y z u v w f g h k s = let p = parts_of_write vars defs x y z b k s in subst (λ j. sort_of vars' defs' b' (write u v w) ≡ Some j) p.4 (write_sort vars' defs' u v w b' p.0 (f (map p.0) p.1) (g int p.2) (h p.0 p.3))

    pub carries_choose : (x y z u v w : Tree) → Carries b b' x u → Carries b b' y v → Carries b b' z w → Carries b b' (choose x y z) (choose u v w)
    carries_choose x y z u v w f g h k s = let p = parts_of_choose vars defs x y z b k s in choose_sort vars' defs' u v w b' k (f boolean p.0) (g k p.1) (h k p.2)

    pub carries_call : (n : ℕ) (ts us : Trees) → ((d : Def) → slice_get defs n ≡ Some d → slice_get defs' n ≡ Some d) → CarriesEach b b' ts us → Carries b b' (call n ts) (call n us)
    carries_call n ts us f g k s = let p = parts_of_call vars defs n ts b k s in subst (λ j. sort_of vars' defs' b' (call n us) ≡ Some j) p.3 (call_sort vars' defs' n us b' p.0 (f p.0 p.1) (g p.0.params p.2))

    pub carries_negation : (x u : Tree) → Carries b b' x u → Carries b b' (negation x) (negation u)
    carries_negation x u f k s = subst (λ j. sort_of vars' defs' b' (negation u) ≡ Some j) (when_some (is boolean (sort_of vars defs b x)) boolean k s).1 (negation_sort vars' defs' u b' (f boolean (part_of_negation vars defs x b k s)))

    pub carries_all : (ts us : Trees) → CarriesFormulas b b' ts us → Carries b b' (all ts) (all us)
    carries_all ts us f k s = let w = when_some (are_formulas vars defs b ts) boolean k s in subst (λ j. sort_of vars' defs' b' (all us) ≡ Some j) w.1 (when_true (are_formulas vars' defs' b' us) (Some boolean) (f w.0))

    pub carries_some : (ts us : Trees) → CarriesFormulas b b' ts us → Carries b b' (some ts) (some us)
    carries_some ts us f k s = let w = when_some (are_formulas vars defs b ts) boolean k s in subst (λ j. sort_of vars' defs' b' (some us) ≡ Some j) w.1 (when_true (are_formulas vars' defs' b' us) (Some boolean) (f w.0))

    pub carries_equal : (x y u v : Tree) → Carries b b' x u → Carries b b' y v → Carries b b' (equal x y) (equal u v)
    carries_equal x y u v f g k s = let p = parts_of_equal vars defs x y b k s in subst (λ j. sort_of vars' defs' b' (equal u v) ≡ Some j) (sym p.3) (equal_sort vars' defs' u v b' p.0 (f p.0 p.1) (g p.0 p.2))

    pub carries_at_most : (x y u v : Tree) → Carries b b' x u → Carries b b' y v → Carries b b' (at_most x y) (at_most u v)
    carries_at_most x y u v f g k s = let p = parts_of_at_most vars defs x y b k s in
        subst (λ j. sort_of vars' defs' b' (at_most u v) ≡ Some j) (when_some (is int (sort_of vars defs b x) && is int (sort_of vars defs b y)) boolean k s).1 (at_most_sort vars' defs' u v b' (f int p.0) (g int p.1))

    pub carries_quantifier : (ss : List Kind) (ps qs : Patterns) (t u : Tree) → CarriesPatterns (reverse ss ++ b) (reverse ss ++ b') ps qs → Carries (reverse ss ++ b) (reverse ss ++ b') t u → Carries b b' (for_all ss ps t) (for_all ss qs u)
    carries_quantifier ss ps qs t u f g k s = let p = parts_of_quantifier vars defs ss ps t b k s in
        subst (λ j. sort_of vars' defs' b' (for_all ss qs u) ≡ Some j) (when_some (have_sorts_in vars defs (reverse ss ++ b) ps && is boolean (sort_of vars defs (reverse ss ++ b) t)) boolean k s).1
        (quantifier_sort vars' defs' ss qs u b' (f p.0) (g boolean p.1))

    pub carries_first : (t u : Tree) (ts us : Trees) → Carries b b' t u → CarriesEach b b' ts us → CarriesEach b b' (tree t ts) (tree u us)
    carries_first t u ts us f g [] s = absurd (cc)
    carries_first t u ts us f g (k ∷ ks) s = let p = first_of_sort vars defs k ks t ts b s in all_true (is k (sort_of vars' defs' b' u)) (are vars' defs' b' ks us) (sort_is k (sort_of vars' defs' b' u) (f k p.0)) (g ks p.1)

    pub carries_none : CarriesEach b b' no_trees no_trees
    carries_none [] s = refl
    carries_none (k ∷ ks) s = absurd (cc)

    pub carries_formula : (t u : Tree) (ts us : Trees) → Carries b b' t u → CarriesFormulas b b' ts us → CarriesFormulas b b' (tree t ts) (tree u us)
    carries_formula t u ts us f g s = let p = first_formula vars defs t ts b s in one_more_formula vars' defs' u us b' (f boolean p.0) (g p.1)

    pub carries_int : (c : ℤ) (t u : Tree) (ps qs : Parts) → Carries b b' t u → CarriesInts b b' ps qs → CarriesInts b b' (part c t ps) (part c u qs)
    carries_int c t u ps qs f g s = let p = first_int vars defs c t ps b s in all_true (is int (sort_of vars' defs' b' u)) (are_ints vars' defs' b' qs) (sort_is int (sort_of vars' defs' b' u) (f int p.0)) (g p.1)

    pub carries_sort : (t u : Tree) (ts us : Trees) → Carries b b' t u → CarriesSorts b b' ts us → CarriesSorts b b' (tree t ts) (tree u us)
    carries_sort t u ts us f g s = let p = some_sort vars defs (sort_of vars defs b t) (have_sorts vars defs b ts) s in sort_some vars defs (sort_of vars' defs' b' u) (have_sorts vars' defs' b' us) p.0 (f p.0 p.1) (g p.2)

    pub carries_pattern : (ts us : Trees) (ps qs : Patterns) → CarriesSorts b b' ts us → CarriesPatterns b b' ps qs → CarriesPatterns b b' (pattern ts ps) (pattern us qs)
    carries_pattern ts us ps qs f g s = let p = both_true (have_sorts vars defs b ts) (have_sorts_in vars defs b ps) s in all_true (have_sorts vars' defs' b' us) (have_sorts_in vars' defs' b' qs) (f p.0) (g p.1)
