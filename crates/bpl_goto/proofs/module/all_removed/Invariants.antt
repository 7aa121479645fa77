use Rattle.std.proofs.Common.{◌≡◌, map, take}
use Rattle.bpl_goto.specs.Removed.{removed}
use Rattle.bpl_goto.proofs.module.all_removed.Given as goal

abbrev pub invariant-loop-proc : goal.invariant-loop-proc
invariant-loop-proc l = l.without.items ≡ map removed (take l.proc-index l.procs)
