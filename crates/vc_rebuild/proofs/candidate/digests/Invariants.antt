use Rattle.std.proofs.Common.{◌≡◌, ◌++◌, drop}
use Rattle.vc_rebuild.specs.Inside.{digests_of}
use Rattle.vc_rebuild.proofs.candidate.digests.Given as goal

abbrev pub invariant-loop-proc : goal.invariant-loop-proc
invariant-loop-proc l = l.found ++ digests_of (drop l.proc-index l.procs) ≡ digests_of l.procs
