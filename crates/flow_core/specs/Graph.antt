-- Graphs of blocks of commands, their edges, and what they set.
use Rattle.std.specs.Prelude.{ℕ, ◌≢◌, List, [], ◌∷◌, map, slice_index_or, Option, Some, None, All, AllPairs, Contains}
use Rattle.std.specs.List.{flat_map}
use Rattle.flow_core.specs.declared.command.Command.{Command}
use Rattle.flow_core.specs.declared.command.Command.TheVariants.{Assert, Assume, Assign, Havoc}
use Rattle.flow_core.specs.declared.block.LoopHead.{LoopHead}
use Rattle.flow_core.specs.declared.block.Block.{Block}

-- the variables from number own on are those of replaced calls; olds pairs each global with its entry value
pub record Graph : Type 0 where
  pub blocks : List Block
  pub own : ℕ
  pub olds : List (ℕ × ℕ)

-- the block of a number; one that isn't there does nothing and goes nowhere
abbrev pub block_at : List Block → ℕ → Block
block_at blocks b = slice_index_or blocks b (record { commands = []; next = []; head = None })

-- an edge goes from block b to block c
abbrev pub Edge : List Block → ℕ → ℕ → Type 0
Edge blocks b c = Contains (block_at blocks b).next c

-- the variables that a command sets
abbrev pub set_by : Command → List ℕ
set_by (Assert m E) = []
set_by (Assume E) = []
set_by (Assign ps) = map (λ p. p.0) ps
set_by (Havoc xs) = xs

abbrev pub set_by_each : List Command → List ℕ
set_by_each cs = flat_map set_by cs

-- the variables that a loop may set, by what stands at its head
abbrev pub targets_of : Option LoopHead → List ℕ
targets_of None = []
targets_of (Some h) = h.targets

-- the numbers in pairs of variables, one after another
abbrev pub paired_numbers : List (ℕ × ℕ) → List ℕ
paired_numbers ps = flat_map (λ p. p.0 ∷ p.1 ∷ []) ps

-- the entry values among pairs of a global and its entry value
abbrev pub entry_values : List (ℕ × ℕ) → List ℕ
entry_values ps = map (λ p. p.1) ps

-- no number stands twice in the pairs
abbrev pub PairsOnce : List (ℕ × ℕ) → Type 0
PairsOnce olds = AllPairs (λ m n. m ≢ n) (paired_numbers olds)

-- no block sets an entry value
abbrev pub SetsNoEntryValue : List (ℕ × ℕ) → List Block → Type 0
SetsNoEntryValue olds blocks = All (λ k. All (λ v. ¬ Contains (entry_values olds) v) (set_by_each k.commands)) blocks

-- no head's targets hold an entry value
abbrev pub TargetsNoEntryValue : List (ℕ × ℕ) → List Block → Type 0
TargetsNoEntryValue olds blocks = All (λ k. All (λ v. ¬ Contains (entry_values olds) v) (targets_of k.head)) blocks

-- what the type of graphs keeps
pub record KeepsEntryValues (blocks : List Block) (olds : List (ℕ × ℕ)) : Type 0 where
  pub paired_once : PairsOnce olds
  pub never_set : SetsNoEntryValue olds blocks
  pub never_target : TargetsNoEntryValue olds blocks
