use Rattle.std.proofs.Common.{◌≡◌, drop}
use Rattle.vc_rebuild.specs.Gotos.{some_goto}
use Rattle.vc_rebuild.proofs.gotos.some_goto.Given as goal

-- none in the procedures so far
abbrev pub invariant-loop-proc : goal.invariant-loop-proc
invariant-loop-proc l = some_goto (drop l.proc-index l.procs) ≡ some_goto l.procs
