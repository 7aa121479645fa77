-- A term with a type is well sorted, and its sort is that of the type's values.
use Rattle.std.proofs.Common.{◌≡◌, ◌∙◌, refl, sym, ap, subst, ℕ, Bool, true, ◌&&◌, Option, Some, List, [], ◌∷◌, ◌++◌, reverse, slice_get, option_map}
use Rattle.std.proofs.lemmas.Option.{slice_get-map}
use Rattle.logic_core.proofs.Booleans.{all_true}
use Rattle.logic_core.specs.Tree.{Kind, int, boolean, Tree, num, truth, free, bound, linear, mul, read, write, choose, call, negation, all, some, equal, at_most, for_all, exists, Trees, no_trees, tree, Parts, no_parts, part, Patterns, no_patterns, pattern}
use Rattle.logic_core.specs.Def.{Def}
use Rattle.logic_core.specs.Wide.{when, ◌>>=◌}
use Rattle.logic_core.specs.Same.{is_some_and}
use Rattle.logic_core.specs.Sorts.{is, range, sort_of, are, are_formulas, are_ints, have_sorts, have_sorts_in}
use Rattle.logic_laws.proofs.Options.{when_true}
use Rattle.logic_laws.proofs.SortTests.{sort_is}
use Rattle.bpl_sorts.specs.Types.{Ty, integers, truths, maps, kind_of, kinds_of, Head}
use Rattle.bpl_sorts.specs.Typed.{HasType, HaveTypes, AreTruths, AreIntegers, AreTyped, ArePatterns}
use Rattle.bpl_sorts.proofs.Exchanges.{kinds_within}

-- the sorts of definitions are those of their types
abbrev pub DefsHaveKinds : List Head → List Def → Type 0
DefsHaveKinds heads defs = (f : ℕ) (h : Head) → slice_get heads f ≡ Some h → (d : Def) × (slice_get defs f ≡ Some d) × (d.params ≡ kinds_of h.0) × (d.sort ≡ kind_of h.1)

pub kind_at : (ts : List Ty) (n : ℕ) (t : Ty) → slice_get ts n ≡ Some t → slice_get (kinds_of ts) n ≡ Some (kind_of t)
kind_at ts n t e = slice_get-map kind_of ts n ∙ ap (option_map kind_of) e

some_kind : (s t : Ty) → t ≡ s → Some (kind_of s) ≡ Some (kind_of t)
some_kind s t e = ap (λ u. Some (kind_of u)) (sym e)

when_kind : (c : Bool) (s t : Ty) → c ≡ true → t ≡ s → when c (Some (kind_of s)) ≡ Some (kind_of t)
when_kind c s t h e = when_true c (Some (kind_of s)) h ∙ some_kind s t e

-- under a binder
over_kinds : (P : List Kind → Type 0) (b ts : List Ty) (ss : List Kind) → kinds_of ts ≡ ss → P (kinds_of (reverse ts ++ b)) → P (reverse ss ++ kinds_of b)
over_kinds P b ts ss e h = subst P (kinds_within ts b ∙ ap (λ ks. reverse ks ++ kinds_of b) e) h

module _ (vars : List Ty) (heads : List Head) (defs : List Def) (kinds : DefsHaveKinds heads defs) where
  abbrev sort : List Ty → Tree → Option Kind
  sort b t = sort_of (kinds_of vars) defs (kinds_of b) t

  mutual
    pub typed_sort : (t : Tree) (b : List Ty) (s : Ty) → HasType vars heads b t s → sort_of (kinds_of vars) defs (kinds_of b) t ≡ Some (kind_of s)
    typed_sort (num n) b s h = some_kind integers s h
    typed_sort (truth x) b s h = some_kind truths s h
    typed_sort (free v) b s h = kind_at vars v s h
    typed_sort (bound v) b s h = kind_at b v s h
    typed_sort (linear ps c) b s h = when_kind (are_ints (kinds_of vars) defs (kinds_of b) ps) integers s (typed_ints ps b h.0) h.1
    typed_sort (mul x y) b s h = when_kind _ integers s (all_true _ _ (sort_is int _ (typed_sort x b integers h.0)) (sort_is int _ (typed_sort y b integers h.1))) h.2
    typed_sort (read m i) b s h =
        ap (λ o. o >>= λ r. range r >>= λ k. when (is int (sort b i)) (Some k)) (typed_sort m b (maps s) h.0)
        ∙ when_true (is int (sort b i)) (Some (kind_of s)) (sort_is int (sort b i) (typed_sort i b integers h.1))
    typed_sort (write m i x) b s h =
        ap (λ o. o >>= λ r. range r >>= λ k. when (is int (sort b i) && is k (sort b x)) (Some r)) (typed_sort m b (maps h.0) h.1)
        ∙ when_kind (is int (sort b i) && is (kind_of h.0) (sort b x)) (maps h.0) s (all_true _ _ (sort_is int (sort b i) (typed_sort i b integers h.2)) (sort_is (kind_of h.0) (sort b x) (typed_sort x b h.0 h.3))) h.4
    typed_sort (choose c x y) b s h =
        ap (λ o. o >>= λ r. when (is boolean (sort b c) && is r (sort b y)) (Some r)) (typed_sort x b s h.1)
        ∙ when_true (is boolean (sort b c) && is (kind_of s) (sort b y)) (Some (kind_of s)) (all_true _ _ (sort_is boolean (sort b c) (typed_sort c b truths h.0)) (sort_is (kind_of s) (sort b y) (typed_sort y b s h.2)))
    typed_sort (call f ts) b s h = let d = kinds f h.0 h.1 in
        ap (λ o. o >>= λ d. when (are (kinds_of vars) defs (kinds_of b) d.params ts) (Some d.sort)) d.1
        ∙ (when_true (are (kinds_of vars) defs (kinds_of b) (d.0).params ts) (Some (d.0).sort) (subst (λ ks. are (kinds_of vars) defs (kinds_of b) ks ts ≡ true) (sym d.2) (typed_are ts b (h.0).0 h.2))
        ∙ ap Some (d.3 ∙ ap kind_of (sym h.3)))
    typed_sort (negation x) b s h = when_kind (is boolean (sort b x)) truths s (sort_is boolean (sort b x) (typed_sort x b truths h.0)) h.1
    typed_sort (all ts) b s h = when_kind _ truths s (typed_formulas ts b h.0) h.1
    typed_sort (some ts) b s h = when_kind _ truths s (typed_formulas ts b h.0) h.1
    typed_sort (equal x y) b s h =
        ap (λ o. o >>= λ r. when (is r (sort b y)) (Some boolean)) (typed_sort x b h.0 h.1)
        ∙ when_kind (is (kind_of h.0) (sort b y)) truths s (sort_is (kind_of h.0) (sort b y) (typed_sort y b h.0 h.2)) h.3
    typed_sort (at_most x y) b s h = when_kind _ truths s (all_true _ _ (sort_is int _ (typed_sort x b integers h.0)) (sort_is int _ (typed_sort y b integers h.1))) h.2
    typed_sort (for_all ss ps x) b s h = when_kind _ truths s (all_true _ _ (over_kinds (λ ks. have_sorts_in (kinds_of vars) defs ks ps ≡ true) b h.0 ss h.1 (typed_patterns ps (reverse h.0 ++ b) h.2)) (sort_is boolean _ (over_kinds (λ ks. sort_of (kinds_of vars) defs ks x ≡ Some boolean) b h.0 ss h.1 (typed_sort x (reverse h.0 ++ b) truths h.3)))) h.4
    typed_sort (exists ss ps x) b s h = when_kind _ truths s (all_true _ _ (over_kinds (λ ks. have_sorts_in (kinds_of vars) defs ks ps ≡ true) b h.0 ss h.1 (typed_patterns ps (reverse h.0 ++ b) h.2)) (sort_is boolean _ (over_kinds (λ ks. sort_of (kinds_of vars) defs ks x ≡ Some boolean) b h.0 ss h.1 (typed_sort x (reverse h.0 ++ b) truths h.3)))) h.4

    typed_patterns : (ps : Patterns) (b : List Ty) → ArePatterns vars heads b ps → have_sorts_in (kinds_of vars) defs (kinds_of b) ps ≡ true
    typed_patterns no_patterns b h = refl
    typed_patterns (pattern ts ps) b h = all_true _ _ (typed_each ts b h.0) (typed_patterns ps b h.1)

    typed_each : (ts : Trees) (b : List Ty) → AreTyped vars heads b ts → have_sorts (kinds_of vars) defs (kinds_of b) ts ≡ true
    typed_each no_trees b h = refl
    typed_each (tree t ts) b h = ap (λ o. is_some_and o (λ s. have_sorts (kinds_of vars) defs (kinds_of b) ts)) (typed_sort t b h.0 h.1) ∙ typed_each ts b h.2

    pub typed_are : (ts : Trees) (b : List Ty) (ss : List Ty) → HaveTypes vars heads b ss ts → are (kinds_of vars) defs (kinds_of b) (kinds_of ss) ts ≡ true
    typed_are no_trees b [] h = refl
    typed_are no_trees b (s ∷ ss) h = absurd h
    typed_are (tree t ts) b [] h = absurd h
    typed_are (tree t ts) b (s ∷ ss) h = all_true _ _ (sort_is (kind_of s) (sort b t) (typed_sort t b s h.0)) (typed_are ts b ss h.1)

    typed_formulas : (ts : Trees) (b : List Ty) → AreTruths vars heads b ts → are_formulas (kinds_of vars) defs (kinds_of b) ts ≡ true
    typed_formulas no_trees b h = refl
    typed_formulas (tree t ts) b h = all_true _ _ (sort_is boolean (sort b t) (typed_sort t b truths h.0)) (typed_formulas ts b h.1)

    typed_ints : (ps : Parts) (b : List Ty) → AreIntegers vars heads b ps → are_ints (kinds_of vars) defs (kinds_of b) ps ≡ true
    typed_ints no_parts b h = refl
    typed_ints (part k t ps) b h = all_true _ _ (sort_is int (sort b t) (typed_sort t b integers h.0)) (typed_ints ps b h.1)
