-- The parts of a sum fall: each atom is greater than the next, and no coefficient is zero.
use Rattle.std.specs.Prelude.{◌≡◌, ℤ, pos, false, List, Some, IfSome}
use Rattle.std.specs.Ordering.{int_eq}
use Rattle.std.specs.declared.cmp.Ordering.TheVariants.{Greater}
use Rattle.logic_core.specs.Tree.{Kind, Tree, num, truth, free, bound, linear, mul, read, write, choose, call, negation, all, some, equal, at_most, for_all, exists, Trees, no_trees, tree, Parts, no_parts, part, Patterns, no_patterns, pattern}
use Rattle.logic_core.specs.Def.{Def}
use Rattle.logic_core.specs.Order.{order}
use Rattle.logic_core.specs.Sum.{Linear, add_term}
use Rattle.logic_core.specs.Normal.{normal}
use Rattle.logic_core.specs.Combine.{linear_of, combined, at_least_zero}
use Rattle.logic_core.specs.Tighten.{tighten}

-- the atom is greater than the first one
abbrev pub IsAbove : Tree → Parts → Type 0
IsAbove t no_parts = Unit {0}
IsAbove t (part j u ps) = order t u ≡ Greater

-- each atom is greater than the next, and no coefficient is zero
abbrev pub FallStrictly : Parts → Type 0
FallStrictly no_parts = Unit {0}
FallStrictly (part k t ps) = (int_eq k (pos 0) ≡ false) × IsAbove t ps × FallStrictly ps

abbrev pub Falls : Linear → Type 0
Falls s = FallStrictly s.parts

-- a sum falls whatever joins it, and so does each sum of multiples
abbrev pub SumsFall : Type 0
SumsFall = ((k : ℤ) (t : Tree) (s : Linear) → Falls s → IfSome (add_term k t s) Falls) × ((a : Linear) (p : ℤ) (b : Linear) (q : ℤ) → IfSome (combined a p b q) Falls)

-- in a term each sum falls
abbrev mutual
  pub EachSumFalls : Tree → Type 0
  EachSumFalls (num n) = Unit {0}
  EachSumFalls (truth x) = Unit {0}
  EachSumFalls (free v) = Unit {0}
  EachSumFalls (bound v) = Unit {0}
  EachSumFalls (linear ps c) = FallStrictly ps × FallInParts ps
  EachSumFalls (mul x y) = EachSumFalls x × EachSumFalls y
  EachSumFalls (read x y) = EachSumFalls x × EachSumFalls y
  EachSumFalls (write x y z) = EachSumFalls x × EachSumFalls y × EachSumFalls z
  EachSumFalls (choose x y z) = EachSumFalls x × EachSumFalls y × EachSumFalls z
  EachSumFalls (call f ts) = FallInEach ts
  EachSumFalls (negation x) = EachSumFalls x
  EachSumFalls (all ts) = FallInEach ts
  EachSumFalls (some ts) = FallInEach ts
  EachSumFalls (equal x y) = EachSumFalls x × EachSumFalls y
  EachSumFalls (at_most x y) = EachSumFalls x × EachSumFalls y
  EachSumFalls (for_all ss ps x) = FallInPatterns ps × EachSumFalls x
  EachSumFalls (exists ss ps x) = FallInPatterns ps × EachSumFalls x

  pub FallInEach : Trees → Type 0
  FallInEach no_trees = Unit {0}
  FallInEach (tree t ts) = EachSumFalls t × FallInEach ts

  pub FallInParts : Parts → Type 0
  FallInParts no_parts = Unit {0}
  FallInParts (part k t ps) = EachSumFalls t × FallInParts ps

  pub FallInPatterns : Patterns → Type 0
  FallInPatterns no_patterns = Unit {0}
  FallInPatterns (pattern ts ps) = FallInEach ts × FallInPatterns ps

-- in a normal form each sum falls
abbrev pub NormalSumsFall : Type 0
NormalSumsFall = (vars : List Kind) (defs : List Def) (bound : List Kind) (t : Tree) → IfSome (normal vars defs bound t) EachSumFalls

-- the sum of a linear fact falls where each sum in the fact does
abbrev pub LinearFormsFall : Type 0
LinearFormsFall = (fact : Tree) → EachSumFalls fact → IfSome (linear_of fact) Falls

-- in a fact combined from two each sum falls where each does in the two
abbrev pub CombinedFactsFall : Type 0
CombinedFactsFall = (f g : Tree) (a c s : Linear) (p q : ℤ) → EachSumFalls f → EachSumFalls g → linear_of f ≡ Some a → linear_of g ≡ Some c → combined a p c q ≡ Some s → EachSumFalls (at_least_zero s)

-- tightening leaves each sum falling
abbrev pub TighteningFalls : Type 0
TighteningFalls = (fact : Tree) → EachSumFalls fact → EachSumFalls (tighten fact)
