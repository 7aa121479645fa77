-- Sorts of terms, computed.
use Rattle.std.specs.Prelude.{◌≡◌, refl, pos, false, Some, None, List, [], ◌∷◌, Option, map as each}
use Rattle.logic_core.specs.Tree.{Kind, int, boolean, map, Tree, num, free, bound, linear, mul, read, write, choose, call, negation, all, some, equal, at_most, for_all, no_trees, tree, no_parts, part, no_patterns, pattern}
use Rattle.logic_core.specs.Def.{Def}
use Rattle.logic_core.specs.Sorts.{sort_of}

abbrev x : Tree
x = free 0

abbrev y : Tree
y = free 1

abbrev p : Tree
p = free 2

abbrev q : Tree
q = free 3

abbrev m : Tree
m = free 4

abbrev sorts : List Kind
sorts = int ∷ int ∷ boolean ∷ boolean ∷ map int ∷ []

-- the identity of integers
abbrev definitions : List Def
definitions = record { params = int ∷ []; sort = int; logical = false; body = bound 0 } ∷ []

abbrev sort : Tree → Option Kind
sort t = sort_of sorts definitions [] t

-- a map is written and read at integers, a call has its parameters' sorts, and each variable has its sort
terms : each sort (write m x y ∷ write m x p ∷ read m (num (pos 1)) ∷ read x y ∷ choose p x y ∷ choose x x y ∷ choose p x q ∷ call 0 (tree x no_trees) ∷ call 0 (tree p no_trees) ∷ call 0 no_trees ∷ call 1 (tree x no_trees) ∷ linear (part (pos 1) p no_parts) (pos 0) ∷ mul x p ∷ free 5 ∷ bound 0 ∷ [])
    ≡ Some (map int) ∷ None ∷ Some int ∷ None ∷ Some int ∷ None ∷ None ∷ Some int ∷ None ∷ None ∷ None ∷ None ∷ None ∷ None ∷ None ∷ []
terms = refl

-- the last variable of a binder is the nearest, and a trigger has any sort, but has one
formulas : each sort (equal m m ∷ equal x p ∷ at_most x y ∷ at_most p q ∷ negation x ∷ all no_trees ∷ some (tree p (tree x no_trees)) ∷ for_all (int ∷ boolean ∷ []) (pattern (tree (bound 0) no_trees) no_patterns) (all (tree (bound 0) (tree (at_most (bound 1) x) no_trees))) ∷ for_all (int ∷ boolean ∷ []) (pattern (tree (bound 0) no_trees) no_patterns) (all (tree (bound 1) (tree (at_most (bound 0) x) no_trees))) ∷ for_all (int ∷ []) (pattern (tree (read m (bound 0)) no_trees) no_patterns) p ∷ for_all (boolean ∷ []) (pattern (tree (read m (bound 0)) no_trees) no_patterns) p ∷ [])
    ≡ Some boolean ∷ None ∷ Some boolean ∷ None ∷ None ∷ Some boolean ∷ None ∷ Some boolean ∷ None ∷ Some boolean ∷ None ∷ []
formulas = refl

-- the first sort in reach is the nearest variable's
in_reach : each (sort_of sorts definitions (boolean ∷ int ∷ [])) (bound 0 ∷ bound 1 ∷ at_most (bound 0) (bound 1) ∷ [])
    ≡ Some boolean ∷ Some int ∷ None ∷ []
in_reach = refl
