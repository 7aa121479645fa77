use Rattle.std.proofs.Common.{ℕ, ◌<◌}
use Rattle.flow_core.specs.Graph.{Edge}
use Rattle.flow_core.specs.Plain.{Branches}
use Rattle.flow_core.proofs.heads.is_branched_to.Given as goal

abbrev pub invariant-loop-block : goal.invariant-loop-block
invariant-loop-block l = (b : ℕ) → b < l.block-index → Edge l.blocks b l.target → ¬ Branches l.blocks b
