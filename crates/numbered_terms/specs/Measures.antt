-- The size and the reach of a node's term, by those of its numbers.
use Rattle.std.specs.Prelude.{◌≡◌, ℕ, ◌+◌, ◌-◌, max, List, [], ◌∷◌, length, map}
use Rattle.logic_core.specs.Tree.{Tree, nodes}
use Rattle.logic_core.specs.Size.{capped}
use Rattle.term_bank.specs.Node.{numbers_in, in_lists}
use Rattle.term_bank.specs.declared.node.Node.{Node}
use Rattle.term_bank.specs.declared.node.Node.TheVariants.{Bound, ForAll, Exists}
use Rattle.numbered_terms.specs.Reach.{reach}

module _ (of : ℕ → ℕ) where
  abbrev pub sum_over : List ℕ → ℕ
  sum_over [] = 0
  sum_over (i ∷ is) = of i + sum_over is

  abbrev pub most_over : List ℕ → ℕ
  most_over [] = 0
  most_over (i ∷ is) = max (of i) (most_over is)

  abbrev pub node_size : Node → ℕ
  node_size m = sum_over (numbers_in m) + 1

  abbrev pub node_reach : Node → ℕ
  node_reach (Bound v) = v + 1
  node_reach (ForAll ss ps a) = max (of a) (most_over (in_lists ps.items)) - length ss.items
  node_reach (Exists ss ps a) = max (of a) (most_over (in_lists ps.items)) - length ss.items
  node_reach m = most_over (numbers_in m)

abbrev pub size_of : Tree → ℕ
size_of t = capped (nodes t)

-- what is kept beside terms: the size of each, up to 64 bits of it, and its reach
pub record AreMeasured (ts : List Tree) (ns : List ℕ) (rs : List ℕ) : Type 0 where
  pub sizes : ns ≡ map size_of ts
  pub reaches : rs ≡ map reach ts
