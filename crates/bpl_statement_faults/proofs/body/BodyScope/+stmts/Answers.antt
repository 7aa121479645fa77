use Rattle.std.proofs.Common.{◌≡◌, ◌++◌, ap, sym, subst, ◌∙◌, true, flat_map, OnOk, arith, drop-cons}
use Rattle.bpl_ast.specs.Statement.{Invariant}
use Rattle.bpl_ast.specs.StmtView.{stmts_of}
use Rattle.bpl_scopes.specs.Fault.{earlier, first_fault}
use Rattle.bpl_scopes.specs.Scopes.{texts_of}
use Rattle.bpl_faults.specs.ExprFaults.{formula_faults}
use Rattle.bpl_faults.specs.ScopeView.{scope_seen}
use Rattle.bpl_statement_faults.specs.BodyView.{body_seen}
use Rattle.bpl_statement_faults.specs.StmtFaults.{guard_faults, stmts_faults}
use Rattle.std.proofs.lemmas.Grind.{common_steps}
use Rattle.bpl_statement_faults.proofs.StmtSteps.{stmts_next, branches_next, joins_three}
use Rattle.bpl_statement_faults.proofs.LabelSteps.{passed}
use Rattle.bpl_statement_faults.proofs.body.BodyScope.+stmts.Goals as goal

pub note_stmts-loop-stmt-preserved : goal.note_stmts-loop-stmt-preserved
note_stmts-loop-stmt-preserved t c = grind (arith, common_steps, stmts_next, passed, drop-cons)

pub note_branches-loop-branch-preserved : goal.note_branches-loop-branch-preserved
note_branches-loop-branch-preserved t c = grind (arith, common_steps, branches_next, drop-cons)

pub note_while-returns-clause-faults : goal.note_while-returns-clause-faults
note_while-returns-clause-faults t c =
    let S = scope_seen c.args.self.now.scope.now in
    let X = guard_faults S c.args.guard.now in
    let Y = flat_map (λ (i : Invariant). formula_faults S i.formula) c.args.invariants.now in
    let Z = stmts_faults (body_seen c.args.self.now) (record { in_loop = true; around = texts_of c.args.own.now ++ c.args.labels.now.around; ahead = c.args.labels.now.ahead }) (stmts_of c.args.body.now) in
    subst (λ k. OnOk c.note_loop_body.result (c.note_loop_body.new.faults.first ≡ k))
    (ap (λ o. earlier o (first_fault Z)) (c.in_ok-note_invariants.ensures ∙ ap (λ o. earlier o (first_fault Y)) c.in_ok-note_guard.ensures) ∙ sym (joins_three c.args.faults.now.first X Y Z))
    c.note_loop_body.ensures.faults
