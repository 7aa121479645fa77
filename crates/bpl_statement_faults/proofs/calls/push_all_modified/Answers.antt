use Rattle.std.proofs.Common.{sym, ◌∙◌, ◌++◌, arith}
use Rattle.std.proofs.lemmas.Grind.{common_steps}
use Rattle.std.proofs.lemmas.List.{at_drop_all}
use Rattle.bpl_statement_faults.specs.CallView.{modified_where}
use Rattle.bpl_statement_faults.proofs.CallSteps.{modified_walked, modified_nothing}
use Rattle.bpl_statement_faults.proofs.calls.push_all_modified.Goals as goal

pub loop-clause-preserved : goal.loop-clause-preserved
loop-clause-preserved c =
    modified_walked c.args.table.now c.args.hidden.now c.args.clauses.now c.loop-clause.clause-index c.clause-item.result
    c.loop-clause.modified c.push_modified.new.modified _ c.loop-clause-test.true c.clause-item.is (grind (arith, common_steps)) c.loop-clause.invariant

pub returns : goal.returns
returns c =
    sym (modified_nothing c.args.table.now c.args.hidden.now c.loop-clause.modified)
    ∙ sym (at_drop_all (λ cs. c.loop-clause.modified ++ modified_where c.args.table.now c.args.hidden.now cs) c.args.clauses.now c.loop-clause.clause-index c.loop-clause-test.false)
    ∙ c.loop-clause.invariant
