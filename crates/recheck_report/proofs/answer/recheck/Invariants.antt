use Rattle.std.proofs.Common.{drop}
use Rattle.recheck_report.specs.Lines.{lines}
use Rattle.recheck_report.specs.AnswerView.{AreShort}
use Rattle.recheck_report.proofs.Leading.{InAll}
use Rattle.recheck_report.proofs.answer.recheck.Given as goal

abbrev pub invariant-loop-proc : goal.invariant-loop-proc
invariant-loop-proc l = record {
  leads : InAll l.procs (lines l.proofs) (drop l.proc-index l.procs) (lines l.rest);
  short : AreShort (lines l.rest);
}
