use Rattle.std.proofs.Common.{ℕ, ◌<◌, ◌≤◌}
use Rattle.flow_core.specs.Graph.{Edge}
use Rattle.flow_core.proofs.edges.entry_limit.Given as goal

abbrev pub invariant-loop-b : goal.invariant-loop-b
invariant-loop-b l = record {
  passed : l.limit ≤ l.b;
  entered : (low : ℕ) → low < l.limit → (b : ℕ) × (low ≤ b) × Edge l.blocks b l.target;
  no_more : (b : ℕ) → b < l.b → Edge l.blocks b l.target → b < l.limit;
}
