use Rattle.std.proofs.Common.{ℕ, ◌<◌, ◌≢◌}
use Rattle.flow_core.specs.Graph.{Edge}
use Rattle.flow_core.proofs.branches.has_other_predecessor.Given as goal

abbrev pub invariant-loop-a : goal.invariant-loop-a
invariant-loop-a l = (a : ℕ) → a < l.a → a ≢ l.b → ¬ Edge l.blocks a l.c
