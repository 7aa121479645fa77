use Rattle.bpl_statement_faults.specs.BodyView.{body_seen}
use Rattle.bpl_statement_faults.specs.StmtFaults.{target_faults}
use Rattle.bpl_statement_faults.proofs.StmtSteps.{seen_walked}
use Rattle.bpl_statement_faults.proofs.body.BodyScope.note_each_target.Goals as goal

pub loop-name-preserved : goal.loop-name-preserved
loop-name-preserved c =
    seen_walked (target_faults (body_seen c.args.self.now)) c.args.names.now c.loop-name.name-index c.name-item.result
    c.loop-name.faults.first c.note_target.new.faults.first _ c.loop-name-test.true c.name-item.is c.note_target.ensures c.loop-name.invariant
