use Rattle.std.proofs.Common.{ℕ, ◌<◌, ◌≢◌}
use Rattle.flow_core.specs.Graph.{Edge}
use Rattle.flow_core.specs.Plain.{InLoop}
use Rattle.flow_core.proofs.loops.loop_is_plain.Given as goal

abbrev pub invariant-loop-b : goal.invariant-loop-b
invariant-loop-b l = (b : ℕ) → b < l.b → (c : ℕ) → Edge l.blocks b c → InLoop l.blocks l.head c → c ≢ l.head → InLoop l.blocks l.head b
