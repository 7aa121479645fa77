-- Variables and definitions over which terms have the same sorts, normal forms and left sides.
use Rattle.std.specs.Prelude.{◌≡◌, ℕ, ◌+◌, ◌<◌, ◌≤◌, option_map, slice_get, List, length}
use Rattle.logic_core.specs.Tree.{Kind, Tree}
use Rattle.logic_core.specs.Def.{Def}
use Rattle.logic_core.specs.Renamed.{EachHas}
use Rattle.term_bank.specs.declared.node.Node.{Node}
use Rattle.term_bank.specs.declared.node.Node.TheVariants.{Free}
use Rattle.term_bank.specs.Numbered.{at}

-- each free variable of the term has a number below this, inside quantifiers and triggers too
abbrev pub IsBelow : ℕ → Tree → Type 0
IsBelow n t = EachHas (λ v. v < n) (λ f. Unit {0}) t

-- so have those of the first so many terms
abbrev pub AreBelow : List Tree → ℕ → ℕ → Type 0
AreBelow ts count n = (j : ℕ) → j < count → IsBelow n (at ts j)

-- so many terms are there at least, and their variables have numbers below this
abbrev pub AreCounted : List Tree → ℕ → ℕ → Type 0
AreCounted ts count n = (count ≤ length ts) × AreBelow ts count n

-- above which number a node's own variable stands
abbrev pub node_width : Node → ℕ
node_width (Free v) = v + 1
node_width m = 0

-- the sorts of a definition's parameters, and its own
abbrev pub head_of : Def → List Kind × Kind
head_of d = (d.params, d.sort)

-- the variables of numbers below this have the same sorts, and all definitions the same heads
pub record AgreeBelow (n : ℕ) (vars : List Kind) (defs : List Def) (vars' : List Kind) (defs' : List Def) : Type 0 where
  pub variables : (v : ℕ) → v < n → slice_get vars v ≡ slice_get vars' v
  pub heads : (f : ℕ) → option_map head_of (slice_get defs f) ≡ option_map head_of (slice_get defs' f)
