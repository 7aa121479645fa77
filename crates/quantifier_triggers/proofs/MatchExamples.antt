-- Tuples that were computed.
use Rattle.std.specs.Prelude.{◌≡◌, refl, pos, List, [], ◌∷◌}
use Rattle.logic_core.specs.Tree.{Kind, int, map, Tree, num, free, bound, read, write, call, no_trees, tree}
use Rattle.quantifier_triggers.specs.Match.{tuples}

-- a and b are maps, x and y numbers
abbrev sorts : List Kind
sorts = map int ∷ map int ∷ int ∷ int ∷ []

abbrev a : Tree
a = free 0

abbrev b : Tree
b = free 1

abbrev x : Tree
x = free 2

abbrev y : Tree
y = free 3

-- {a[k]} against a[x], b[y], a[b[y]]
one_variable : tuples sorts [] (tree (read a (bound 0)) no_trees) (int ∷ []) (read a x ∷ read b y ∷ read a (read b y) ∷ []) ≡ (x ∷ []) ∷ (read b y ∷ []) ∷ []
one_variable = refl

-- {a[i], b[j]}: the first variable is i, the later pattern turns faster
two_patterns : tuples sorts [] (tree (read a (bound 1)) (tree (read b (bound 0)) no_trees)) (int ∷ int ∷ []) (read a x ∷ read b y ∷ read a y ∷ read b x ∷ [])
    ≡ (x ∷ y ∷ []) ∷ (x ∷ x ∷ []) ∷ (y ∷ y ∷ []) ∷ (y ∷ x ∷ []) ∷ []
two_patterns = refl

-- {a[k]} matches a[y := 1][x] at the root
at_the_root : tuples sorts [] (tree (read a (bound 0)) no_trees) (int ∷ []) (read (write a y (num (pos 1))) x ∷ []) ≡ (x ∷ []) ∷ []
at_the_root = refl

-- {m[k]}: m is of a map sort, and the root is what it becomes
map_variable : tuples sorts [] (tree (read (bound 1) (bound 0)) no_trees) (map int ∷ int ∷ []) (read (write b y (num (pos 1))) x ∷ []) ≡ (b ∷ x ∷ []) ∷ []
map_variable = refl

-- {m[k]} with a k that no pattern has
without_a_term : tuples sorts [] (tree (read a (num (pos 0))) no_trees) (int ∷ []) (read a (num (pos 0)) ∷ []) ≡ []
without_a_term = refl

-- {f(k, k)}
same_at_each : tuples sorts [] (tree (call 0 (tree (bound 0) (tree (bound 0) no_trees))) no_trees) (int ∷ [])
    (call 0 (tree x (tree y no_trees)) ∷ call 0 (tree y (tree y no_trees)) ∷ call 1 (tree x (tree x no_trees)) ∷ []) ≡ (y ∷ []) ∷ []
same_at_each = refl
