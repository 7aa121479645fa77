use Rattle.std.proofs.Common.{arith}
use Rattle.std.proofs.lemmas.Grind.{common_steps}
use Rattle.bpl_ast.specs.Statement.{Invariant}
use Rattle.bpl_faults.specs.ExprFaults.{formula_faults}
use Rattle.bpl_faults.specs.ScopeView.{scope_seen}
use Rattle.bpl_statement_faults.proofs.StmtSteps.{walked}
use Rattle.bpl_statement_faults.proofs.body.BodyScope.note_invariants.Goals as goal

pub loop-found-preserved : goal.loop-found-preserved
loop-found-preserved c =
    walked (λ (i : Invariant). formula_faults (scope_seen c.args.self.now.scope.now) i.formula) c.args.invariants.now c.loop-found.found-index c.found-item.result
    c.loop-found.faults.first c.note_formula.new.faults.first _ c.loop-found-test.true c.found-item.is (grind (arith, common_steps)) c.loop-found.invariant
