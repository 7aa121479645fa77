-- Rising graphs, and plain graphs.
use Rattle.std.specs.Prelude.{◌≡◌, ◌≢◌, ℕ, ◌<◌, ◌≤◌, ◌==◌, List, length, take, slice_index_or, count_by, Option, Some, None, IsSome, All, Contains}
use Rattle.flow_core.specs.declared.command.Command.{Command}
use Rattle.flow_core.specs.declared.block.LoopHead.{LoopHead}
use Rattle.flow_core.specs.declared.block.Block.{Block}
use Rattle.flow_core.specs.Graph.{Graph, block_at, Edge, set_by_each}
use Rattle.flow_core.specs.Reading.{Mentions, Reads}

-- every edge goes to a higher number
abbrev pub IsRising : List Block → Type 0
IsRising blocks = (b c : ℕ) → Edge blocks b c → b < c

abbrev pub IsHead : List Block → ℕ → Type 0
IsHead blocks h = IsSome (block_at blocks h).head

-- several edges leave the block
abbrev pub Branches : List Block → ℕ → Type 0
Branches blocks b = 1 < length (block_at blocks b).next

-- an edge goes to the block from this number or a higher one
abbrev pub EnteredFrom : List Block → ℕ → ℕ → Type 0
EnteredFrom blocks low h = (b : ℕ) × (low ≤ b) × Edge blocks b h

-- the loop of a head is the blocks from the head to the greatest block with an edge back to it
abbrev pub InLoop : List Block → ℕ → ℕ → Type 0
InLoop blocks h c = (h ≤ c) × EnteredFrom blocks c h

-- an edge goes back to the head, which isn't block 0 and no successor of a block with several edges
pub record HeadIsPlain (blocks : List Block) (h : ℕ) : Type 0 where
  pub reached_again : EnteredFrom blocks h h
  pub not_first : h ≢ 0
  pub unbranched : (b : ℕ) → Edge blocks b h → ¬ Branches blocks b

abbrev pub HeadsArePlain : List Block → Type 0
HeadsArePlain blocks = (h : ℕ) → IsHead blocks h → HeadIsPlain blocks h

-- one edge goes from b to c, and none from another block
pub record IsOnlyEdge (blocks : List Block) (b c : ℕ) : Type 0 where
  pub once : count_by (λ x. x == c) (block_at blocks b).next ≡ 1
  pub alone : (a : ℕ) → Edge blocks a c → a ≡ b

abbrev pub BranchesArePlain : List Block → Type 0
BranchesArePlain blocks = (b c : ℕ) → Branches blocks b → Edge blocks b c → IsOnlyEdge blocks b c

-- a block of the loop other than its head is entered only from blocks of the loop
abbrev pub LoopIsPlain : List Block → ℕ → Type 0
LoopIsPlain blocks h = (b c : ℕ) → Edge blocks b c → InLoop blocks h c → c ≢ h → InLoop blocks h b

abbrev pub LoopsArePlain : List Block → Type 0
LoopsArePlain blocks = (h : ℕ) → IsHead blocks h → LoopIsPlain blocks h

-- each variable from number own on that a command reads is set by a command before it
abbrev pub SetsBeforeReading : ℕ → List Command → Type 0
SetsBeforeReading own cs = (i v : ℕ) (c : Command) → i < length cs → own ≤ v → Reads (slice_index_or cs i c) v → Contains (set_by_each (take i cs)) v

-- no invariant mentions a variable from number own on
abbrev pub InvariantsAvoid : ℕ → Option LoopHead → Type 0
InvariantsAvoid own None = Unit {0}
InvariantsAvoid own (Some h) = All (λ i. (v : ℕ) → own ≤ v → ¬ Mentions i.formula v) h.invariants

-- the block sets the variables of its calls before it reads them, and no invariant reads one
pub record OwnsItsCalls (own : ℕ) (k : Block) : Type 0 where
  pub set_first : SetsBeforeReading own k.commands
  pub avoided : InvariantsAvoid own k.head

abbrev pub CallsArePlain : ℕ → List Block → Type 0
CallsArePlain own blocks = All (OwnsItsCalls own) blocks

pub record IsPlain (g : Graph) : Type 0 where
  pub heads : HeadsArePlain g.blocks
  pub branches : BranchesArePlain g.blocks
  pub loops : LoopsArePlain g.blocks
  pub calls : CallsArePlain g.own g.blocks
