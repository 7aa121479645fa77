use Rattle.std.proofs.Common.{ℕ, ◌<◌}
use Rattle.flow_core.specs.Graph.{Edge}
use Rattle.flow_core.proofs.rising.edges_rise.Given as goal

abbrev pub invariant-loop-b : goal.invariant-loop-b
invariant-loop-b l = (b c : ℕ) → b < l.b → Edge l.blocks b c → b < c
