use Rattle.std.proofs.Common.{◌≡◌, ◌++◌, drop}
use Rattle.vc_rebuild.proofs.put_body.add_shared.Given as goal

abbrev pub invariant-loop-proc : goal.invariant-loop-proc
invariant-loop-proc l = l.found ++ drop l.proc-index l.procs ≡ l.fn.found ++ l.procs
