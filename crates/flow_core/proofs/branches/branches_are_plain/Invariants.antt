use Rattle.std.proofs.Common.{ℕ, ◌<◌}
use Rattle.flow_core.specs.Graph.{Edge}
use Rattle.flow_core.specs.Plain.{Branches, IsOnlyEdge}
use Rattle.flow_core.proofs.branches.branches_are_plain.Given as goal

abbrev pub invariant-loop-b : goal.invariant-loop-b
invariant-loop-b l = (b : ℕ) → b < l.b → Branches l.blocks b → (c : ℕ) → Edge l.blocks b c → IsOnlyEdge l.blocks b c
