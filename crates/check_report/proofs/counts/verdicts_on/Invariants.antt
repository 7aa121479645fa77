use Rattle.std.proofs.Common.{◌≡◌, map, take}
use Rattle.tableau.specs.RunView.{verdict_of}
use Rattle.report_laws.specs.Summary.{verdicts_on}
use Rattle.check_report.proofs.counts.verdicts_on.Given as goal

abbrev pub invariant-loop-proc : goal.invariant-loop-proc
invariant-loop-proc l = map verdict_of l.found.items ≡ verdicts_on l.fn.turns (take l.proc-index l.procs)
