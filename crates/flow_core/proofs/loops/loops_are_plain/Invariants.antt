use Rattle.std.proofs.Common.{ℕ, ◌<◌}
use Rattle.flow_core.specs.Plain.{IsHead, LoopIsPlain}
use Rattle.flow_core.proofs.loops.loops_are_plain.Given as goal

abbrev pub invariant-loop-h : goal.invariant-loop-h
invariant-loop-h l = (h : ℕ) → h < l.h → IsHead l.blocks h → LoopIsPlain l.blocks h
