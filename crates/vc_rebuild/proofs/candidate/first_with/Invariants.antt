use Rattle.std.proofs.Common.{◌≡◌, drop}
use Rattle.vc_rebuild.specs.Kept.{with_text}
use Rattle.vc_rebuild.proofs.candidate.first_with.Given as goal

abbrev pub invariant-loop-proc : goal.invariant-loop-proc
invariant-loop-proc l = with_text (drop l.proc-index l.procs) l.text ≡ with_text l.procs l.text
