use Rattle.std.proofs.Common.{sym, ◌∙◌, arith}
use Rattle.std.specs.List.{list_all}
use Rattle.std.proofs.lemmas.Grind.{common_steps}
use Rattle.std.proofs.lemmas.List.{at_drop_all}
use Rattle.bpl_faults.specs.ScopeView.{scope_seen}
use Rattle.bpl_statement_faults.specs.BodyView.{body_seen}
use Rattle.bpl_statement_faults.specs.CallView.{modified_where}
use Rattle.bpl_statement_faults.specs.StmtFaults.{may_modify}
use Rattle.bpl_statement_faults.proofs.CallSteps.{may_walked, may_stops, may_all}
use Rattle.bpl_statement_faults.proofs.body.BodyScope.may_modify_all.Goals as goal

pub loop-clause-preserved : goal.loop-clause-preserved
loop-clause-preserved c =
    may_walked (may_modify (body_seen c.args.self.now).modified) (scope_seen c.args.self.now.scope.now).table c.args.hidden.now c.args.clauses.now c.loop-clause.clause-index c.clause-item.result
    _ c.loop-clause-test.true c.clause-item.is (grind (arith, common_steps)) c.loop-clause.invariant

pub returns-then-not-may_modify_names : goal.returns-then-not-may_modify_names
returns-then-not-may_modify_names c =
    may_stops (may_modify (body_seen c.args.self.now).modified) (scope_seen c.args.self.now.scope.now).table c.args.hidden.now c.args.clauses.now c.loop-clause.clause-index c.clause-item.result
    _ c.loop-clause-test.true c.clause-item.is (grind (arith, common_steps)) c.loop-clause.invariant

pub returns : goal.returns
returns c =
    may_all (may_modify (body_seen c.args.self.now).modified) (scope_seen c.args.self.now.scope.now).table c.args.hidden.now
    ∙ sym (at_drop_all (λ cs. list_all (may_modify (body_seen c.args.self.now).modified) (modified_where (scope_seen c.args.self.now.scope.now).table c.args.hidden.now cs)) c.args.clauses.now c.loop-clause.clause-index c.loop-clause-test.false)
    ∙ c.loop-clause.invariant
