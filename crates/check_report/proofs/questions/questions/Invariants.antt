use Rattle.std.proofs.Common.{◌≡◌, ◌++◌, map, drop}
use Rattle.std.specs.Arc.{arc_value}
use Rattle.check_report.specs.Questions.{questions_on}
use Rattle.check_report.proofs.questions.questions.Given as goal

-- the questions so far, and then those of the procedures that are left, are those of all
abbrev pub invariant-loop-proc : goal.invariant-loop-proc
invariant-loop-proc l = map arc_value l.found.items ++ questions_on l.turns (drop l.proc-index l.procs) ≡ questions_on l.turns l.procs
