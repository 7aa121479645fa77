use Rattle.std.proofs.Common.{ℕ, ◌<◌, get_or}
use Rattle.flow_core.specs.Plain.{IsOnlyEdge}
use Rattle.flow_core.proofs.branches.has_only_edges.Given as goal

abbrev pub invariant-loop-c : goal.invariant-loop-c
invariant-loop-c l = (k d : ℕ) → k < l.c-index → IsOnlyEdge l.blocks l.b (get_or l.c-items k d)
