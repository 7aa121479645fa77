use Rattle.bpl_scopes.specs.CountsView.{counts_seen}
use Rattle.bpl_declaration_faults.specs.DeclFaults.{clause_faults_in}
use Rattle.bpl_statement_faults.proofs.StmtSteps.{walked}
use Rattle.bpl_declaration_faults.proofs.declared.Declared.note_each_spec.Goals as goal

pub loop-clause-preserved : goal.loop-clause-preserved
loop-clause-preserved c =
    walked (clause_faults_in c.args.self.now.environment.now (counts_seen c.args.self.now.counts) c.args.vars.now c.args.hidden.now) c.args.clauses.now c.loop-clause.clause-index c.clause-item.result
    c.loop-clause.faults.first c.note_spec.new.faults.first _ c.loop-clause-test.true c.clause-item.is c.in_ok-note_spec.ensures c.loop-clause.invariant
