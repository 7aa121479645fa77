use Rattle.std.proofs.Common.{ℕ, ◌<◌}
use Rattle.flow_core.specs.Plain.{IsHead, HeadIsPlain}
use Rattle.flow_core.proofs.heads.heads_are_plain.Given as goal

abbrev pub invariant-loop-h : goal.invariant-loop-h
invariant-loop-h l = (h : ℕ) → h < l.h → IsHead l.blocks h → HeadIsPlain l.blocks h
