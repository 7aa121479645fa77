-- Terms of each construct in rising order, computed.
use Rattle.std.specs.Prelude.{◌≡◌, refl, pos, negsuc, true, false, List, [], ◌∷◌, Bool, ◌&&◌, ◌++◌}
use Rattle.logic_core.specs.Tree.{int, boolean, Tree, num, truth, bound, linear, mul, read, write, choose, call, negation, all, some, equal, at_most, for_all, exists, no_trees, tree, no_parts, part, no_patterns, pattern, free}
use Rattle.std.specs.declared.cmp.Ordering.{Ordering}
use Rattle.std.specs.declared.cmp.Ordering.TheVariants.{Less, Equal, Greater}
use Rattle.logic_core.specs.Order.{first, order}

abbrev x : Tree
x = free 0

abbrev y : Tree
y = free 1

abbrev p : Tree
p = free 2

abbrev q : Tree
q = free 3

abbrev m : Tree
m = free 4

abbrev is : Ordering → Ordering → Bool
is Less Less = true
is Equal Equal = true
is Greater Greater = true
is o p = false

-- below each of these, and these above it
abbrev is_below : Tree → List Tree → Bool
is_below t [] = true
is_below t (u ∷ us) = is (order t u) Less && (is (order u t) Greater && is_below t us)

-- each is equal to itself and below all that follow
abbrev rise : List Tree → Bool
rise [] = true
rise (t ∷ ts) = is (order t t) Equal && (is_below t ts && rise ts)

-- one node
abbrev one_node : List Tree
one_node = (num (negsuc 0)) ∷ (num (pos 9)) ∷ (truth false) ∷ (truth true) ∷ x ∷ y ∷ (bound 0) ∷ (linear no_parts (pos 0)) ∷ (linear no_parts (pos 1)) ∷ (call 0 no_trees) ∷ (all no_trees) ∷ (some no_trees) ∷ []

-- two and three nodes: in a sum an atom, its coefficient, and at last the constant
abbrev few_nodes : List Tree
few_nodes = (negation p) ∷ (all (tree p no_trees)) ∷ (linear (part (pos 1) x (part (pos 1) x no_parts)) (pos 9)) ∷ (linear (part (pos 2) x (part (pos 1) x no_parts)) (pos 0)) ∷ (linear (part (pos 2) x (part (pos 1) x no_parts)) (pos 1)) ∷ (linear (part (pos 1) y (part (pos 1) x no_parts)) (pos 0)) ∷ (mul x y) ∷ (mul y x) ∷ (read m x) ∷ (all (tree q (tree q no_trees))) ∷ (all (tree (negation p) no_trees)) ∷ (some (tree p (tree q no_trees))) ∷ (equal x y) ∷ (at_most x y) ∷ []

-- three nodes and four: in a quantifier the body, the sorts and at last the triggers
abbrev quantifiers : List Tree
quantifiers = (for_all (boolean ∷ []) (pattern (tree x no_trees) no_patterns) p) ∷ (for_all [] (pattern (tree x no_trees) no_patterns) q) ∷ (for_all (int ∷ []) (pattern (tree x no_trees) no_patterns) q) ∷ (for_all (int ∷ []) (pattern (tree y no_trees) no_patterns) q) ∷ (for_all (int ∷ boolean ∷ []) (pattern (tree x no_trees) no_patterns) q) ∷ (for_all (boolean ∷ []) (pattern (tree x no_trees) no_patterns) q) ∷ (exists [] (pattern (tree x no_trees) no_patterns) p) ∷ (write m x y) ∷ (choose p x y) ∷ []

they_rise : rise (one_node ++ few_nodes ++ quantifiers) ≡ true
unfolding first
they_rise = refl
