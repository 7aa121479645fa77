-- Normal forms, in tables, computed.
use Rattle.std.specs.Prelude.{◌≡◌, refl, pos, negsuc, true, false, Some, None, List, [], ◌∷◌, Option, map as each}
use Rattle.logic_core.specs.Tree.{Kind, int, boolean, map, Tree, num, truth, bound, linear, mul, read, write, choose, negation, all, some, equal, at_most, for_all, exists, no_trees, tree, no_parts, part, no_patterns, pattern, free}
use Rattle.logic_core.specs.Order.{first}
use Rattle.logic_core.specs.Normal.{normal}

abbrev x : Tree
x = free 0

abbrev y : Tree
y = free 1

abbrev p : Tree
p = free 2

abbrev q : Tree
q = free 3

abbrev m : Tree
m = free 4

abbrev sorts : List Kind
sorts = int ∷ int ∷ boolean ∷ boolean ∷ map int ∷ []

abbrev norm : Tree → Option Tree
norm t = normal sorts [] [] t

-- equal atoms join, zero coefficients drop, and the greater atom stands first
sums : each norm (linear (part (pos 1) x (part (pos 1) y (part (pos 1) x no_parts))) (negsuc 0) ∷ linear (part (pos 1) x (part (negsuc 0) x no_parts)) (pos 5) ∷ linear (part (pos 0) x (part (pos 2) y no_parts)) (pos 3) ∷ linear (part (pos 1) x (part (pos 1) (read m x) no_parts)) (pos 0) ∷ linear (part (pos 2) (linear (part (pos 1) x no_parts) (pos 3)) (part (negsuc 0) y no_parts)) (pos 0) ∷ linear (part (pos 3) (num (pos 4)) (part (pos 1) x no_parts)) (negsuc 11) ∷ linear (part (pos 1) x no_parts) (pos 1) ∷ linear no_parts (pos 7) ∷ [])
    ≡ Some (linear (part (pos 1) y (part (pos 2) x no_parts)) (negsuc 0)) ∷ Some (num (pos 5)) ∷ Some (linear (part (pos 2) y no_parts) (pos 3)) ∷ Some (linear (part (pos 1) (read m x) (part (pos 1) x no_parts)) (pos 0)) ∷ Some (linear (part (negsuc 0) y (part (pos 2) x no_parts)) (pos 6)) ∷ Some x ∷ Some (linear (part (pos 1) x no_parts) (pos 1)) ∷ Some (num (pos 7)) ∷ []
unfolding first
sums = refl

-- an inequality is one with 0, and an equation has a positive lead
products_and_comparisons : each norm (mul (linear (part (pos 1) x no_parts) (pos 1)) (num (pos 3)) ∷ mul (num (pos 0)) x ∷ mul (num (pos 2)) (num (pos 3)) ∷ mul (read m y) x ∷ at_most x y ∷ negation (at_most x y) ∷ at_most (num (pos 1)) (num (pos 2)) ∷ at_most (num (pos 2)) (num (pos 2)) ∷ at_most (num (pos 3)) (num (pos 2)) ∷ at_most x x ∷ equal x (linear (part (pos 1) y no_parts) (pos 1)) ∷ equal y (linear (part (pos 1) x no_parts) (pos 1)) ∷ equal (num (pos 0)) (linear (part (pos 2) x no_parts) (pos 0)) ∷ equal (linear (part (pos 1) x no_parts) (pos 1)) (linear (part (pos 1) x no_parts) (pos 2)) ∷ equal x x ∷ [])
    ≡ Some (linear (part (pos 3) x no_parts) (pos 3)) ∷ Some (num (pos 0)) ∷ Some (num (pos 6)) ∷ Some (mul x (read m y)) ∷ Some (at_most (num (pos 0)) (linear (part (pos 1) y (part (negsuc 0) x no_parts)) (pos 0))) ∷ Some (at_most (num (pos 0)) (linear (part (negsuc 0) y (part (pos 1) x no_parts)) (negsuc 0))) ∷ Some (truth true) ∷ Some (truth true) ∷ Some (truth false) ∷ Some (truth true) ∷ Some (equal (linear (part (pos 1) y (part (negsuc 0) x no_parts)) (pos 1)) (num (pos 0))) ∷ Some (equal (linear (part (pos 1) y (part (negsuc 0) x no_parts)) (negsuc 0)) (num (pos 0))) ∷ Some (equal (linear (part (pos 2) x no_parts) (pos 0)) (num (pos 0))) ∷ Some (truth false) ∷ Some (truth true) ∷ []
unfolding first
products_and_comparisons = refl

-- nested junctions are taken in, truth values leave, and Nots move in
junctions_and_negations : each norm (all (tree (all (tree p (tree (truth true) no_trees))) (tree (all (tree q (tree (negation (negation p)) no_trees))) no_trees)) ∷ some (tree (some (tree p (tree (truth false) no_trees))) (tree q no_trees)) ∷ all (tree (some (tree (all (tree p (tree q no_trees))) no_trees)) (tree q no_trees)) ∷ all (tree p (tree (truth false) no_trees)) ∷ some (tree p (tree (truth true) no_trees)) ∷ all (tree (truth true) (tree p no_trees)) ∷ some (tree (truth false) (tree p no_trees)) ∷ all no_trees ∷ some no_trees ∷ negation (all (tree p (tree (negation q) no_trees))) ∷ negation (some (tree p (tree q no_trees))) ∷ negation (truth true) ∷ [])
    ≡ Some (all (tree p (tree q (tree p no_trees)))) ∷ Some (some (tree p (tree q no_trees))) ∷ Some (all (tree p (tree q (tree q no_trees)))) ∷ Some (truth false) ∷ Some (truth true) ∷ Some p ∷ Some p ∷ Some (truth true) ∷ Some (truth false) ∷ Some (some (tree (negation p) (tree q no_trees))) ∷ Some (all (tree (negation p) (tree (negation q) no_trees))) ∷ Some (truth false) ∷ []
unfolding first
junctions_and_negations = refl

-- a trigger stays, and is normal
equivalences_choices_and_quantifiers : each norm (equal p (truth false) ∷ equal (truth true) p ∷ equal q p ∷ equal (write m x y) m ∷ choose (truth true) x y ∷ choose (truth false) x y ∷ choose p x (linear (part (pos 1) x no_parts) (pos 0)) ∷ choose p x y ∷ negation (for_all (int ∷ []) (pattern (tree (read m (linear (part (pos 1) (bound 0) no_parts) (pos 0))) no_trees) no_patterns) (at_most (num (pos 0)) (read m (bound 0)))) ∷ exists (int ∷ []) (pattern (tree (bound 0) no_trees) no_patterns) (equal (bound 0) (bound 0)) ∷ for_all (boolean ∷ []) (pattern (tree (bound 0) no_trees) no_patterns) (truth false) ∷ [])
    ≡ Some (negation p) ∷ Some p ∷ Some (equal p q) ∷ Some (equal m (write m x y)) ∷ Some x ∷ Some y ∷ Some x ∷ Some (choose p x y) ∷ Some (exists (int ∷ []) (pattern (tree (read m (bound 0)) no_trees) no_patterns) (at_most (num (pos 0)) (linear (part (negsuc 0) (read m (bound 0)) no_parts) (negsuc 0)))) ∷ Some (truth true) ∷ Some (truth false) ∷ []
unfolding first
equivalences_choices_and_quantifiers = refl

-- a number leaves 128 bits: also where it cancels later, and in a part that doesn't matter
wide : each norm (linear (part (pos 1) (num (pos 170141183460469231731687303715884105727)) no_parts) (pos 1) ∷ mul (num (pos 2)) (num (pos 170141183460469231731687303715884105727)) ∷ linear (part (pos 170141183460469231731687303715884105727) x (part (pos 1) x (part (negsuc 0) x no_parts))) (pos 0) ∷ at_most (num (negsuc 170141183460469231731687303715884105727)) (num (negsuc 170141183460469231731687303715884105727)) ∷ all (tree (truth false) (tree (equal x (linear (part (negsuc 0) (num (negsuc 170141183460469231731687303715884105727)) no_parts) (pos 0))) no_trees)) ∷ [])
    ≡ None ∷ None ∷ None ∷ None ∷ None ∷ []
unfolding first
wide = refl
