use Rattle.std.proofs.Common.{◌≡◌, ◌++◌, map, drop}
use Rattle.std.specs.Arc.{arc_value}
use Rattle.edit_session.specs.Built.{questions_of}
use Rattle.edit_session.proofs.goals.questions.Given as goal

-- the questions so far, and then those of the procedures that are left, are those of all
abbrev pub invariant-loop-proc : goal.invariant-loop-proc
invariant-loop-proc l = map arc_value l.found.items ++ questions_of l.turns (drop l.proc-index l.procs) ≡ questions_of l.turns l.procs
