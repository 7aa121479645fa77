-- One walk over a term: where something stands for a node, it replaces the node as a whole and is not looked at again; elsewhere the walk goes on into the parts.
use Rattle.std.specs.Prelude.{ℕ, ◌+◌, Option, unwrap_or, List, length}
use Rattle.logic_terms.specs.Tree.{Kind, Tree, num, truth, free, bound, linear, mul, read, write, choose, call, negation, all, some, equal, at_most, for_all, exists, Trees, no_trees, tree, Parts, no_parts, part, Patterns, no_patterns, pattern}

-- what stands for a node at a depth, how deep a binder's body lies, and the numbers that called definitions get
module _ (stands : ℕ → Tree → Option Tree) (under : ℕ → List Kind → ℕ) (number : ℕ → ℕ) where
  abbrev mutual
    pub traversed : ℕ → Tree → Tree
    traversed d (num n) = unwrap_or (stands d (num n)) (num n)
    traversed d (truth x) = unwrap_or (stands d (truth x)) (truth x)
    traversed d (free v) = unwrap_or (stands d (free v)) (free v)
    traversed d (bound v) = unwrap_or (stands d (bound v)) (bound v)
    traversed d (linear ps c) = unwrap_or (stands d (linear ps c)) (linear (traversed_parts d ps) c)
    traversed d (mul x y) = unwrap_or (stands d (mul x y)) (mul (traversed d x) (traversed d y))
    traversed d (read x y) = unwrap_or (stands d (read x y)) (read (traversed d x) (traversed d y))
    traversed d (write x y z) = unwrap_or (stands d (write x y z)) (write (traversed d x) (traversed d y) (traversed d z))
    traversed d (choose x y z) = unwrap_or (stands d (choose x y z)) (choose (traversed d x) (traversed d y) (traversed d z))
    traversed d (call f ts) = unwrap_or (stands d (call f ts)) (call (number f) (traversed_each d ts))
    traversed d (negation x) = unwrap_or (stands d (negation x)) (negation (traversed d x))
    traversed d (all ts) = unwrap_or (stands d (all ts)) (all (traversed_each d ts))
    traversed d (some ts) = unwrap_or (stands d (some ts)) (some (traversed_each d ts))
    traversed d (equal x y) = unwrap_or (stands d (equal x y)) (equal (traversed d x) (traversed d y))
    traversed d (at_most x y) = unwrap_or (stands d (at_most x y)) (at_most (traversed d x) (traversed d y))
    traversed d (for_all ss ps t) = unwrap_or (stands d (for_all ss ps t)) (for_all ss (traversed_patterns (under d ss) ps) (traversed (under d ss) t))
    traversed d (exists ss ps t) = unwrap_or (stands d (exists ss ps t)) (exists ss (traversed_patterns (under d ss) ps) (traversed (under d ss) t))

    pub traversed_each : ℕ → Trees → Trees
    traversed_each d no_trees = no_trees
    traversed_each d (tree t ts) = tree (traversed d t) (traversed_each d ts)

    pub traversed_parts : ℕ → Parts → Parts
    traversed_parts d no_parts = no_parts
    traversed_parts d (part k t ps) = part k (traversed d t) (traversed_parts d ps)

    pub traversed_patterns : ℕ → Patterns → Patterns
    traversed_patterns d no_patterns = no_patterns
    traversed_patterns d (pattern ts ps) = pattern (traversed_each d ts) (traversed_patterns d ps)

-- each binder's variables count
abbrev pub deeper : ℕ → List Kind → ℕ
deeper d ss = d + length ss

-- binders don't count
abbrev pub as_deep : ℕ → List Kind → ℕ
as_deep d ss = d

abbrev pub kept : ℕ → ℕ
kept f = f
