use Rattle.bpl_statement_faults.specs.BodyView.{body_seen, position_seen}
use Rattle.bpl_statement_faults.specs.StmtFaults.{label_faults}
use Rattle.bpl_statement_faults.proofs.StmtSteps.{walked}
use Rattle.bpl_statement_faults.proofs.body.BodyScope.note_goto.Goals as goal

pub loop-label-preserved : goal.loop-label-preserved
loop-label-preserved c =
    walked (label_faults (body_seen c.args.self.now) (position_seen c.args.in_loop c.args.labels.now)) c.args.named.now c.loop-label.label-index c.label-item.result
    c.loop-label.faults.first c.note_label.new.faults.first _ c.loop-label-test.true c.label-item.is c.note_label.ensures c.loop-label.invariant
