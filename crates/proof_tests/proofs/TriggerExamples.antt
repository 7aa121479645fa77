-- Tuples that triggers find, in tables, computed.
use Rattle.std.specs.Prelude.{◌≡◌, refl, pos, true, false, List, [], ◌∷◌}
use Rattle.logic_core.specs.Tree.{Kind, int, boolean, map, Tree, num, truth, free, bound, mul, read, write, choose, call, Trees, no_trees, tree}
use Rattle.logic_core.specs.Def.{Def}
use Rattle.quantifier_triggers.specs.Match.{tuples}

abbrev x : Tree
x = free 0

abbrev y : Tree
y = free 1

abbrev p : Tree
p = free 2

abbrev m : Tree
m = free 4

abbrev sorts : List Kind
sorts = int ∷ int ∷ boolean ∷ boolean ∷ map int ∷ []

-- the identity of integers; there is no second definition
abbrev definitions : List Def
definitions = record { params = int ∷ []; sort = int; logical = false; body = bound 0 } ∷ []

abbrev found_by : Trees → List Kind → List Tree → List (List Tree)
found_by trigger kinds ground = tuples sorts definitions trigger kinds ground

-- one pattern: reads in order, and of a write over the map; a choice is its own root; one variable is one term, of its sort; a call has the same number and as many parts; other parts are equal; a term may be found twice
one_pattern : found_by (tree (read m (bound 0)) no_trees) (int ∷ []) ((read m x) ∷ (read m (num (pos 3))) ∷ (call 0 (tree y no_trees)) ∷ (read m (read m y)) ∷ [])
    ∷ found_by (tree (read m (bound 0)) no_trees) (int ∷ []) ((read (write m x (num (pos 1))) y) ∷ [])
    ∷ found_by (tree (read m (bound 0)) no_trees) (int ∷ []) ((read (write (write m x (num (pos 1))) y (num (pos 2))) (num (pos 3))) ∷ [])
    ∷ found_by (tree (read (write m x (num (pos 1))) (bound 0)) no_trees) (int ∷ []) ((read m y) ∷ (read (write m (num (pos 7)) (num (pos 8))) (num (pos 3))) ∷ [])
    ∷ found_by (tree (read m (bound 0)) no_trees) (int ∷ []) ((read (choose p m m) x) ∷ [])
    ∷ found_by (tree (read (bound 1) (bound 0)) no_trees) (map int ∷ int ∷ []) ((read (write m x (num (pos 1))) y) ∷ (read (choose p m m) (num (pos 3))) ∷ [])
    ∷ found_by (tree (call 1 (tree (bound 0) (tree (bound 0) no_trees))) no_trees) (int ∷ []) ((call 1 (tree x (tree y no_trees))) ∷ (call 1 (tree y (tree y no_trees))) ∷ (call 1 (tree (read m (num (pos 1))) (tree (read m (num (pos 1))) no_trees))) ∷ [])
    ∷ found_by (tree (call 1 (tree (bound 0) (tree x no_trees))) no_trees) (boolean ∷ []) ((call 1 (tree p (tree x no_trees))) ∷ (call 1 (tree y (tree x no_trees))) ∷ (call 1 (tree m (tree x no_trees))) ∷ (call 1 (tree (truth true) (tree x no_trees))) ∷ [])
    ∷ found_by (tree (read m (bound 0)) no_trees) (int ∷ []) ((read m (free 5)) ∷ (read m p) ∷ (read m (bound 0)) ∷ (read m (num (pos 1))) ∷ [])
    ∷ found_by (tree (call 0 (tree (bound 0) no_trees)) no_trees) (int ∷ []) ((call 1 (tree x no_trees)) ∷ (call 0 (tree y no_trees)) ∷ (call 0 no_trees) ∷ (read m (num (pos 3))) ∷ [])
    ∷ found_by (tree (call 1 (tree (bound 0) no_trees)) no_trees) (int ∷ []) ((call 1 (tree x (tree y no_trees))) ∷ (call 0 (tree y no_trees)) ∷ [])
    ∷ found_by (tree (call 1 (tree (bound 0) (tree (bound 1) no_trees))) no_trees) (int ∷ int ∷ []) ((call 1 (tree x no_trees)) ∷ (call 1 (tree x (tree y no_trees))) ∷ [])
    ∷ found_by (tree (call 1 (tree (bound 0) (tree (mul x y) no_trees))) no_trees) (int ∷ []) ((call 1 (tree (num (pos 1)) (tree (mul x y) no_trees))) ∷ (call 1 (tree (num (pos 2)) (tree (mul y x) no_trees))) ∷ [])
    ∷ found_by (tree (call 1 (tree (bound 0) (tree (write m x y) no_trees))) no_trees) (int ∷ []) ((call 1 (tree (num (pos 1)) (tree m no_trees))) ∷ (call 1 (tree (num (pos 2)) (tree (write m x y) no_trees))) ∷ [])
    ∷ found_by (tree (read m (bound 0)) no_trees) (int ∷ []) ((read m x) ∷ (read (write m y (num (pos 1))) x) ∷ []) ∷ []
    ≡ ((x ∷ []) ∷ ((num (pos 3)) ∷ []) ∷ ((read m y) ∷ []) ∷ []) ∷ ((y ∷ []) ∷ []) ∷ (((num (pos 3)) ∷ []) ∷ []) ∷ ((y ∷ []) ∷ ((num (pos 3)) ∷ []) ∷ []) ∷ [] ∷ ((m ∷ y ∷ []) ∷ ((choose p m m) ∷ (num (pos 3)) ∷ []) ∷ []) ∷ ((y ∷ []) ∷ ((read m (num (pos 1))) ∷ []) ∷ []) ∷ ((p ∷ []) ∷ ((truth true) ∷ []) ∷ []) ∷ (((num (pos 1)) ∷ []) ∷ []) ∷ ((y ∷ []) ∷ []) ∷ [] ∷ ((y ∷ x ∷ []) ∷ []) ∷ (((num (pos 1)) ∷ []) ∷ []) ∷ (((num (pos 2)) ∷ []) ∷ []) ∷ ((x ∷ []) ∷ (x ∷ []) ∷ []) ∷ []
one_pattern = refl

abbrev ground : List Tree
ground = (read m x) ∷ (call 0 (tree y no_trees)) ∷ (read m y) ∷ (call 0 (tree x no_trees)) ∷ []

-- a later pattern turns faster; one variable in two patterns; a pattern that adds nothing, and one that no term matches; a variable without a term; no pattern, and patterns without variables
patterns : found_by (tree (read m (bound 1)) (tree (call 0 (tree (bound 0) no_trees)) no_trees)) (int ∷ int ∷ []) ground
    ∷ found_by (tree (call 0 (tree (bound 0) no_trees)) (tree (read m (bound 1)) no_trees)) (int ∷ int ∷ []) ground
    ∷ found_by (tree (read m (bound 0)) (tree (call 0 (tree (bound 0) no_trees)) no_trees)) (int ∷ []) ground
    ∷ found_by (tree (call 0 (tree (bound 0) no_trees)) (tree (read m (bound 0)) no_trees)) (int ∷ []) ground
    ∷ found_by (tree (call 0 (tree (bound 0) no_trees)) (tree (call 0 (tree x no_trees)) no_trees)) (int ∷ []) ground
    ∷ found_by (tree (call 0 (tree (bound 0) no_trees)) (tree (call 1 (tree (bound 0) no_trees)) no_trees)) (int ∷ []) ground
    ∷ found_by (tree (read m x) no_trees) (int ∷ []) ground
    ∷ found_by (tree (read m (bound 0)) no_trees) (int ∷ int ∷ []) ground
    ∷ found_by no_trees (int ∷ []) ground
    ∷ found_by no_trees [] ground
    ∷ found_by (tree (call 0 (tree x no_trees)) (tree x no_trees)) [] ground
    ∷ found_by (tree (call 0 (tree x no_trees)) no_trees) [] ground ∷ []
    ≡ ((x ∷ y ∷ []) ∷ (x ∷ x ∷ []) ∷ (y ∷ y ∷ []) ∷ (y ∷ x ∷ []) ∷ []) ∷ ((x ∷ y ∷ []) ∷ (y ∷ y ∷ []) ∷ (x ∷ x ∷ []) ∷ (y ∷ x ∷ []) ∷ []) ∷ ((x ∷ []) ∷ (y ∷ []) ∷ []) ∷ ((y ∷ []) ∷ (x ∷ []) ∷ []) ∷ ((y ∷ []) ∷ (x ∷ []) ∷ []) ∷ [] ∷ [] ∷ [] ∷ [] ∷ (([]) ∷ []) ∷ [] ∷ (([]) ∷ []) ∷ []
patterns = refl

-- no ground terms; and a trigger that rewriting has turned into a variable
few_terms : found_by (tree (read m (bound 0)) no_trees) (int ∷ []) [] ∷ found_by (tree x no_trees) [] (y ∷ x ∷ x ∷ []) ∷ []
    ≡ [] ∷ ([] ∷ [] ∷ []) ∷ []
few_terms = refl
