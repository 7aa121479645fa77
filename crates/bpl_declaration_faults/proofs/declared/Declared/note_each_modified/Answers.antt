use Rattle.bpl_declaration_faults.specs.DeclFaults.{modified_faults}
use Rattle.bpl_statement_faults.proofs.StmtSteps.{walked}
use Rattle.bpl_declaration_faults.proofs.declared.Declared.note_each_modified.Goals as goal

pub loop-name-preserved : goal.loop-name-preserved
loop-name-preserved c =
    walked (modified_faults c.args.self.now.environment.now c.args.hidden.now) c.args.names.now c.loop-name.name-index c.name-item.result
    c.loop-name.faults.first c.note_modified.new.faults.first _ c.loop-name-test.true c.name-item.is c.note_modified.ensures c.loop-name.invariant
