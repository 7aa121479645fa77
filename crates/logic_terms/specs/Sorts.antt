-- The sort of a term, where it is well sorted. `bound` are the sorts of the bound variables in reach, Bound(0)'s first.
use Rattle.std.specs.Prelude.{Bool, true, false, ◌&&◌, Option, Some, None, List, [], ◌∷◌, ◌++◌, reverse, slice_get}
use Rattle.logic_terms.specs.Tree.{Kind, int, boolean, map, Tree, num, truth, free, bound, linear, mul, read, write, choose, call, negation, all, some, equal, at_most, for_all, exists, Trees, no_trees, tree, Parts, no_parts, part, Patterns, no_patterns, pattern}
use Rattle.logic_terms.specs.Def.{Def}
use Rattle.logic_terms.specs.Same.{same_kind, is_some_and}
use Rattle.logic_terms.specs.Wide.{◌>>=◌, when}

-- there is a sort, and it is k
abbrev pub is : Kind → Option Kind → Bool
is k s = is_some_and s (λ j. same_kind j k)

-- what a map of this sort holds
abbrev pub range : Kind → Option Kind
range int = None
range boolean = None
range (map k) = Some k

-- the sort of a Read, a Write, an If and an Eq, by the sorts of their parts
abbrev pub read_sort : Option Kind → Option Kind → Option Kind
read_sort m i = m >>= λ s. range s >>= λ r. when (is int i) (Some r)

abbrev pub write_sort : Option Kind → Option Kind → Option Kind → Option Kind
write_sort m i x = m >>= λ s. range s >>= λ r. when (is int i && is r x) (Some s)

abbrev pub choice_sort : Option Kind → Option Kind → Option Kind → Option Kind
choice_sort c x y = x >>= λ s. when (is boolean c && is s y) (Some s)

abbrev pub equation_sort : Option Kind → Option Kind → Option Kind
equation_sort x y = x >>= λ s. when (is s y) (Some boolean)

module _ (vars : List Kind) (defs : List Def) where
  abbrev mutual
    pub sort_of : List Kind → Tree → Option Kind
    sort_of b (num n) = Some int
    sort_of b (truth x) = Some boolean
    sort_of b (free v) = slice_get vars v
    sort_of b (bound v) = slice_get b v
    sort_of b (linear ps c) = when (are_ints b ps) (Some int)
    sort_of b (mul x y) = when (is int (sort_of b x) && is int (sort_of b y)) (Some int)
    sort_of b (read m i) = read_sort (sort_of b m) (sort_of b i)
    sort_of b (write m i x) = write_sort (sort_of b m) (sort_of b i) (sort_of b x)
    sort_of b (choose c x y) = choice_sort (sort_of b c) (sort_of b x) (sort_of b y)
    sort_of b (call f ts) = slice_get defs f >>= λ d. when (are b d.params ts) (Some d.sort)
    sort_of b (negation x) = when (is boolean (sort_of b x)) (Some boolean)
    sort_of b (all ts) = when (are_formulas b ts) (Some boolean)
    sort_of b (some ts) = when (are_formulas b ts) (Some boolean)
    sort_of b (equal x y) = equation_sort (sort_of b x) (sort_of b y)
    sort_of b (at_most x y) = when (is int (sort_of b x) && is int (sort_of b y)) (Some boolean)
    sort_of b (for_all ss ps t) = when (have_sorts_in (reverse ss ++ b) ps && is boolean (sort_of (reverse ss ++ b) t)) (Some boolean)
    sort_of b (exists ss ps t) = when (have_sorts_in (reverse ss ++ b) ps && is boolean (sort_of (reverse ss ++ b) t)) (Some boolean)

    -- terms of these sorts, as many
    pub are : List Kind → List Kind → Trees → Bool
    are b [] no_trees = true
    are b (k ∷ ks) (tree t ts) = is k (sort_of b t) && are b ks ts
    are b (k ∷ ks) no_trees = false
    are b [] (tree t ts) = false

    pub are_formulas : List Kind → Trees → Bool
    are_formulas b no_trees = true
    are_formulas b (tree t ts) = is boolean (sort_of b t) && are_formulas b ts

    pub are_ints : List Kind → Parts → Bool
    are_ints b no_parts = true
    are_ints b (part k t ps) = is int (sort_of b t) && are_ints b ps

    -- the patterns of triggers may have any sort
    pub have_sorts : List Kind → Trees → Bool
    have_sorts b no_trees = true
    have_sorts b (tree t ts) = is_some_and (sort_of b t) (λ s. have_sorts b ts)

    pub have_sorts_in : List Kind → Patterns → Bool
    have_sorts_in b no_patterns = true
    have_sorts_in b (pattern ts ps) = have_sorts b ts && have_sorts_in b ps

-- each body is well sorted under its parameters, of its definition's sort, over the definitions of lower numbers
abbrev pub bodies_sorted : List Kind → List Def → List Def → Bool
bodies_sorted vars below [] = true
bodies_sorted vars below (d ∷ ds) = is d.sort (sort_of vars below (reverse d.params) d.body) && bodies_sorted vars (below ++ d ∷ []) ds
