-- Sizes of terms, and terms that stand in others, are replaced and put for the variables of a binder, computed.
use Rattle.std.specs.Prelude.{◌≡◌, refl, pos, true, false, List, [], ◌∷◌, Bool, ◌||◌, map as each}
use Rattle.logic_core.specs.Tree.{int, Tree, num, bound, linear, read, write, choose, call, negation, all, equal, at_most, for_all, exists, no_trees, tree, no_parts, part, no_patterns, pattern, nodes, free}
use Rattle.logic_core.specs.Same.{same_term}
use Rattle.logic_core.specs.Subterm.{replaced, occurs, outside}
use Rattle.logic_core.specs.Substitute.{substitute}

abbrev x : Tree
x = free 0

abbrev y : Tree
y = free 1

abbrev p : Tree
p = free 2

abbrev q : Tree
q = free 3

abbrev m : Tree
m = free 4

-- triggers count, coefficients do not
sizes : each nodes (x ∷ all no_trees ∷ linear (part (pos 7) x (part (pos 2) y no_parts)) (pos 9) ∷ write m x y ∷ for_all (int ∷ []) (pattern (tree (read m (bound 0)) no_trees) no_patterns) (at_most (bound 0) x) ∷ [])
    ≡ 1 ∷ 1 ∷ 3 ∷ 4 ∷ 7 ∷ []
sizes = refl

-- the first term replaced by the second in the third
abbrev replaced_in : Tree × Tree × Tree → Tree
replaced_in r = replaced r.0 r.1 r.2

-- in triggers too, once, and without what a normal form would do
replacements : each replaced_in ((x, read m x, linear (part (pos 1) x (part (pos 2) (read m x) no_parts)) (pos 3)) ∷ (x, y, for_all (int ∷ []) (pattern (tree (read m x) no_trees) no_patterns) (at_most x y)) ∷ (p, q, for_all (int ∷ []) (pattern (tree (read m x) no_trees) no_patterns) (at_most x y)) ∷ (read m x, y, read m x) ∷ [])
    ≡ (linear (part (pos 1) (read m x) (part (pos 2) (read m (read m x)) no_parts)) (pos 3)) ∷ (for_all (int ∷ []) (pattern (tree (read m y) no_trees) no_patterns) (at_most y y)) ∷ (for_all (int ∷ []) (pattern (tree (read m x) no_trees) no_patterns) (at_most x y)) ∷ y ∷ []
replacements = refl

abbrev occurs_in : Tree × Tree → Bool
occurs_in r = occurs r.0 r.1

-- in a trigger alone too, and a constant of a sum is no term
occurrences : each occurs_in ((x, read m x) ∷ (read m x, read m x) ∷ (read m x, x) ∷ (y, read m x) ∷ (x, for_all (int ∷ []) (pattern (tree (read m x) no_trees) no_patterns) p) ∷ (num (pos 0), linear (part (pos 1) x no_parts) (pos 0)) ∷ [])
    ≡ true ∷ true ∷ false ∷ false ∷ true ∷ false ∷ []
occurrences = refl

abbrev contains : Tree → List Tree → Bool
contains a [] = false
contains a (t ∷ ts) = same_term a t || contains a ts

abbrev stands_in : Tree × Tree → Bool
stands_in r = contains r.0 (outside r.1)

-- the quantifier itself, but nothing inside it
outside_quantifiers : each stands_in ((x, x) ∷ (read m x, all (tree p (tree (at_most (linear (part (pos 2) (read m x) no_parts) (pos 0)) y) no_trees))) ∷ (x, equal (write m y x) m) ∷ (x, call 0 (tree (read m x) no_trees)) ∷ (y, choose p x (num (pos 1))) ∷ (for_all (int ∷ []) (pattern (tree (read m x) no_trees) no_patterns) p, negation (for_all (int ∷ []) (pattern (tree (read m x) no_trees) no_patterns) p)) ∷ (x, for_all (int ∷ []) (pattern (tree (read m x) no_trees) no_patterns) (at_most x y)) ∷ [])
    ≡ true ∷ true ∷ true ∷ true ∷ false ∷ true ∷ false ∷ []
outside_quantifiers = refl

abbrev with_terms : Tree × List Tree → Tree
with_terms r = substitute r.0 r.1

-- the last term for the nearest variable; inside an inner binder the variables are further away, and those of outer binders come nearer
substitutions : each with_terms ((at_most (bound 0) (bound 1), x ∷ y ∷ []) ∷ (for_all (int ∷ []) (pattern (tree (read m (bound 0)) no_trees) no_patterns) (at_most (bound 0) (bound 1)), x ∷ []) ∷ (for_all (int ∷ []) (pattern (tree (read m (bound 1)) no_trees) no_patterns) (at_most (bound 0) (bound 1)), (read m x) ∷ []) ∷ (exists (int ∷ []) (pattern (tree (read m (bound 1)) no_trees) no_patterns) (equal (bound 0) (bound 1)), y ∷ []) ∷ (equal (bound 0) (bound 1), x ∷ []) ∷ (linear (part (pos 2) (bound 0) no_parts) (pos 3), []) ∷ [])
    ≡ (at_most y x) ∷ (for_all (int ∷ []) (pattern (tree (read m (bound 0)) no_trees) no_patterns) (at_most (bound 0) x)) ∷ (for_all (int ∷ []) (pattern (tree (read m (read m x)) no_trees) no_patterns) (at_most (bound 0) (read m x))) ∷ (exists (int ∷ []) (pattern (tree (read m y) no_trees) no_patterns) (equal (bound 0) y)) ∷ (equal x (bound 0)) ∷ (linear (part (pos 2) (bound 0) no_parts) (pos 3)) ∷ []
substitutions = refl
