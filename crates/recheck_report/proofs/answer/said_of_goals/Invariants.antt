use Rattle.std.proofs.Common.{drop, map}
use Rattle.recheck_report.specs.Lines.{lines}
use Rattle.recheck_report.specs.Recheck.{head_of}
use Rattle.recheck_report.specs.AnswerView.{AreShort}
use Rattle.recheck_report.proofs.Leading.{InProc}
use Rattle.recheck_report.proofs.answer.said_of_goals.Given as goal

abbrev pub invariant-loop-goal : goal.invariant-loop-goal
invariant-loop-goal l = record {
  leads : InProc (map (head_of l.name) l.goals) (lines l.proofs) l.name (drop l.goal-index l.goals) (lines l.rest);
  short : AreShort (lines l.rest);
}
