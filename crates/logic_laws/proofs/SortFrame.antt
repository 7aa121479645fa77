-- A term keeps its sort over more variables, definitions and binders.
use Rattle.std.proofs.Common.{◌≡◌, refl, ℕ, zero, suc, Some, List, [], ◌∷◌, ◌++◌, reverse, slice_get}
use Rattle.logic_core.specs.Tree.{Kind, Tree, num, truth, free, bound, linear, mul, read, write, choose, call, negation, all, some, equal, at_most, for_all, exists, Trees, no_trees, tree, Parts, no_parts, part, Patterns, no_patterns, pattern}
use Rattle.logic_core.specs.Def.{Def}
use Rattle.logic_laws.proofs.CarriedSorts.{Carries, CarriesEach, CarriesFormulas, CarriesInts, CarriesSorts, CarriesPatterns, carries_linear, carries_mul, carries_read, carries_write, carries_choose, carries_call, carries_negation, carries_all, carries_some, carries_equal, carries_at_most, carries_quantifier, carries_first, carries_none, carries_formula, carries_int, carries_sort, carries_pattern}

-- each element of xs stands in ys, at the same place
abbrev pub Within : {A : Type 0} → List A → List A → Type 0
Within {A} xs ys = (n : ℕ) (x : A) → slice_get xs n ≡ Some x → slice_get ys n ≡ Some x

pub within_more : {A : Type 0} (xs ys : List A) → Within xs (xs ++ ys)
within_more [] ys n x e = absurd (cc)
within_more (z ∷ xs) ys zero x e = e
within_more (z ∷ xs) ys (suc n) x e = within_more xs ys n x e

pub within_after : {A : Type 0} (zs xs ys : List A) → Within xs ys → Within (zs ++ xs) (zs ++ ys)
within_after [] xs ys f n x e = f n x e
within_after (z ∷ zs) xs ys f zero x e = e
within_after (z ∷ zs) xs ys f (suc n) x e = within_after zs xs ys f n x e

pub within_itself : {A : Type 0} (xs : List A) → Within xs xs
within_itself xs n x e = e

pub within_none : {A : Type 0} (ys : List A) → Within [] ys
within_none ys n x e = absurd (cc)

module _ (vars : List Kind) (defs : List Def) (vars' : List Kind) (defs' : List Def) (more_vars : Within vars vars') (more_defs : Within defs defs') where
  mutual
    pub sort_over : (t : Tree) (b b' : List Kind) → Within b b' → Carries vars defs vars' defs' b b' t t
    sort_over (num n) b b' w = λ k s. s
    sort_over (truth x) b b' w = λ k s. s
    sort_over (free v) b b' w = more_vars v
    sort_over (bound v) b b' w = w v
    sort_over (linear ps c) b b' w = carries_linear vars defs vars' defs' b b' ps ps c (ints_over ps b b' w)
    sort_over (mul x y) b b' w = carries_mul vars defs vars' defs' b b' x y x y (sort_over x b b' w) (sort_over y b b' w)
    sort_over (read x y) b b' w = carries_read vars defs vars' defs' b b' x y x y (sort_over x b b' w) (sort_over y b b' w)
    sort_over (write x y z) b b' w = carries_write vars defs vars' defs' b b' x y z x y z (sort_over x b b' w) (sort_over y b b' w) (sort_over z b b' w)
    sort_over (choose x y z) b b' w = carries_choose vars defs vars' defs' b b' x y z x y z (sort_over x b b' w) (sort_over y b b' w) (sort_over z b b' w)
    sort_over (call n ts) b b' w = carries_call vars defs vars' defs' b b' n ts ts (more_defs n) (sorts_over ts b b' w)
    sort_over (negation x) b b' w = carries_negation vars defs vars' defs' b b' x x (sort_over x b b' w)
    sort_over (all ts) b b' w = carries_all vars defs vars' defs' b b' ts ts (formulas_over ts b b' w)
    sort_over (some ts) b b' w = carries_some vars defs vars' defs' b b' ts ts (formulas_over ts b b' w)
    sort_over (equal x y) b b' w = carries_equal vars defs vars' defs' b b' x y x y (sort_over x b b' w) (sort_over y b b' w)
    sort_over (at_most x y) b b' w = carries_at_most vars defs vars' defs' b b' x y x y (sort_over x b b' w) (sort_over y b b' w)
    sort_over (for_all ss ps t) b b' w = carries_quantifier vars defs vars' defs' b b' ss ps ps t t (patterns_over ps (reverse ss ++ b) (reverse ss ++ b') (within_after (reverse ss) b b' w)) (sort_over t (reverse ss ++ b) (reverse ss ++ b') (within_after (reverse ss) b b' w))
    sort_over (exists ss ps t) b b' w = carries_quantifier vars defs vars' defs' b b' ss ps ps t t (patterns_over ps (reverse ss ++ b) (reverse ss ++ b') (within_after (reverse ss) b b' w)) (sort_over t (reverse ss ++ b) (reverse ss ++ b') (within_after (reverse ss) b b' w))

    pub sorts_over : (ts : Trees) (b b' : List Kind) → Within b b' → CarriesEach vars defs vars' defs' b b' ts ts
    sorts_over no_trees b b' w = carries_none vars defs vars' defs' b b'
    sorts_over (tree t ts) b b' w = carries_first vars defs vars' defs' b b' t t ts ts (sort_over t b b' w) (sorts_over ts b b' w)

    pub formulas_over : (ts : Trees) (b b' : List Kind) → Within b b' → CarriesFormulas vars defs vars' defs' b b' ts ts
    formulas_over no_trees b b' w = λ s. refl
    formulas_over (tree t ts) b b' w = carries_formula vars defs vars' defs' b b' t t ts ts (sort_over t b b' w) (formulas_over ts b b' w)

    pub ints_over : (ps : Parts) (b b' : List Kind) → Within b b' → CarriesInts vars defs vars' defs' b b' ps ps
    ints_over no_parts b b' w = λ s. refl
    ints_over (part c t ps) b b' w = carries_int vars defs vars' defs' b b' c t t ps ps (sort_over t b b' w) (ints_over ps b b' w)

    pub have_over : (ts : Trees) (b b' : List Kind) → Within b b' → CarriesSorts vars defs vars' defs' b b' ts ts
    have_over no_trees b b' w = λ s. refl
    have_over (tree t ts) b b' w = carries_sort vars defs vars' defs' b b' t t ts ts (sort_over t b b' w) (have_over ts b b' w)

    pub patterns_over : (ps : Patterns) (b b' : List Kind) → Within b b' → CarriesPatterns vars defs vars' defs' b b' ps ps
    patterns_over no_patterns b b' w = λ s. refl
    patterns_over (pattern ts ps) b b' w = carries_pattern vars defs vars' defs' b b' ts ts ps ps (have_over ts b b' w) (patterns_over ps b b' w)
