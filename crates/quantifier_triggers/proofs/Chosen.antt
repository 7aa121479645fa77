-- Triggers chosen for these quantifiers, by computation.
use Rattle.std.specs.Prelude.{◌≡◌, refl, pos, true, false, List, [], ◌∷◌}
use Rattle.logic_core.specs.Tree.{Tree, num, free, bound, linear, part, no_parts, read, write, call, all, some, equal, at_most, for_all, exists, tree, no_trees, Patterns, pattern, no_patterns, int, boolean}
use Rattle.logic_core.specs.View.{trees_of}
use Rattle.logic_core.specs.Def.{Def}
use Rattle.quantifier_triggers.specs.Candidates.{candidates}
use Rattle.quantifier_triggers.specs.Choice.{chosen, with_triggers}

abbrev one : List Tree → Patterns
one ts = pattern (trees_of ts) no_patterns

abbrev zero_of : Tree
zero_of = num (pos 0)

-- forall i, j :: a[i] <= b[j] has a trigger of two patterns
two_reads : with_triggers [] (for_all (int ∷ int ∷ []) no_patterns (at_most (read (free 0) (bound 1)) (read (free 1) (bound 0))))
    ≡ for_all (int ∷ int ∷ []) (one (read (free 0) (bound 1) ∷ read (free 1) (bound 0) ∷ [])) (at_most (read (free 0) (bound 1)) (read (free 1) (bound 0)))
two_reads = refl

-- forall i :: i >= 0 has none
left_out : with_triggers [] (for_all (int ∷ []) no_patterns (at_most zero_of (bound 0))) ≡ for_all (int ∷ []) no_patterns (at_most zero_of (bound 0))
left_out = refl

-- f is plain and g is logical
abbrev defs : List Def
defs = record { params = int ∷ int ∷ []; sort = int; logical = false; body = bound 0 } ∷ record { params = int ∷ []; sort = boolean; logical = true; body = at_most zero_of (bound 0) } ∷ []

abbrev f : Tree → Tree → Tree
f x y = call 0 (tree x (tree y no_trees))

abbrev g : Tree → Tree
g x = call 1 (tree x no_trees)

-- forall i, j :: f(a[i], j) == b[j] && f(j, i) <= a[i]: five candidates, a[i] once
abbrev body : Tree
body = all (trees_of (equal (f (read (free 0) (bound 1)) (bound 0)) (read (free 1) (bound 0)) ∷ at_most (f (bound 0) (bound 1)) (read (free 0) (bound 1)) ∷ []))

in_preorder : candidates defs 2 body ≡ f (read (free 0) (bound 1)) (bound 0) ∷ read (free 0) (bound 1) ∷ read (free 1) (bound 0) ∷ f (bound 0) (bound 1) ∷ []
in_preorder = refl

-- f(j, i) is smaller than f(a[i], j)
least_of_both : chosen defs 2 body ≡ one (f (bound 0) (bound 1) ∷ [])
least_of_both = refl

-- the first of equals
first_of_equals : chosen defs 2 (at_most (f (bound 0) (bound 1)) (f (bound 1) (bound 0))) ≡ one (f (bound 0) (bound 1) ∷ [])
first_of_equals = refl

-- i, j, k: a[i], f(i, i), b[j], f(j, k) are gone through in order; f(i, i) adds nothing
abbrev three : Tree
three = some (trees_of (equal (read (free 0) (bound 2)) (f (bound 2) (bound 2)) ∷ equal (read (free 1) (bound 1)) (f (bound 1) (bound 0)) ∷ equal (read (free 1) (bound 0)) zero_of ∷ []))

until_covered : chosen defs 3 three ≡ one (read (free 0) (bound 2) ∷ read (free 1) (bound 1) ∷ f (bound 1) (bound 0) ∷ [])
until_covered = refl

-- a[i + 1], g(i) and (a[0 := i])[0] are no candidates
none_built : chosen defs 1 (all (trees_of (g (bound 0) ∷ equal (read (free 0) (linear (part (pos 1) (bound 0) no_parts) (pos 1))) (read (write (free 0) zero_of (bound 0)) zero_of) ∷ []))) ≡ no_patterns
none_built = refl

-- forall i :: exists j :: p[i][j] == 0: the inner one has the candidate, which mentions i too, and the outer one has none
inner_alone : with_triggers [] (for_all (int ∷ []) no_patterns (exists (int ∷ []) no_patterns (equal (read (read (free 0) (bound 1)) (bound 0)) zero_of)))
    ≡ for_all (int ∷ []) no_patterns (exists (int ∷ []) (one (read (read (free 0) (bound 1)) (bound 0) ∷ [])) (equal (read (read (free 0) (bound 1)) (bound 0)) zero_of))
inner_alone = refl
