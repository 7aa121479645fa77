use Rattle.std.proofs.Common.{◌∙◌, ◌&&◌, [], ◌∷◌, ap, sym, refl, codes, drop, map}
use Rattle.std.specs.Prelude.{Vec, Ok}
use Rattle.std.specs.declared.alloc.Global.{Global}
use Rattle.bpl_ast.specs.declared.stmt.Branch.{Branch}
use Rattle.bpl_ast.specs.declared.stmt.StmtForm.{StmtForm}
use Rattle.bpl_ast.specs.Statement.{Stmt, stmt}
use Rattle.bpl_ast.specs.StmtView.{action_of}
use Rattle.bpl_grammar.specs.Terminal.{fixed, sees}
use Rattle.bpl_grammar.specs.Reading.{sees_one}
use Rattle.bpl_grammar.specs.ReadStatements.{stmt_firsts, block_with, branch_with, branches_with, while_with, action_with, stmt_with, stmts_with, read_stmts}
use Rattle.bpl_grammar.proofs.Lengths.{less_behind}
use Rattle.bpl_grammar.proofs.Loops.{loop_more, loop_end, loop_stuck}
use Rattle.bpl_grammar.proofs.Rooms.{room_stmts}
use Rattle.bpl_grammar.proofs.StmtShrinks.{branch_shrinks, stmt_shrinks}
use Rattle.bpl_parse.specs.SeenStatements.{branch_seen}
use Rattle.bpl_parse.proofs.Refused.{refused_as}
use Rattle.bpl_parse.proofs.SeenLaws.{map_append}
use Rattle.bpl_parse.proofs.Steps.{goes, goes_as, stops_as}
use Rattle.bpl_parse.proofs.cursor.Cursor.+statements.Goals as goal

pub if_branch-returns-in_err-body : goal.if_branch-returns-in_err-body
unfolding branch_with
if_branch-returns-in_err-body t c = refused_as {C = Vec Stmt Global} (λ v. v.items) branch_seen (block_with c.args.room (read_stmts c.args.room) c.guarded.new.self) (branch_with c.args.room (read_stmts c.args.room) c.args.self.now) c.from_residual-in_err-body.result c.in_err-body.field-0.0 c.block.new.self c.block.new.self
    c.from_residual-in_err-body.ensures.1 c.in_err-body.ensures refl
    (λ x h. (goes _ _ tt c.expect.new.self _ c.in_ok-expect.ensures.gives (goes _ _ c.in_ok-guard.guard c.guarded.new.self _ c.in_ok-guard.ensures (stops_as _ _ x h))))

pub if_branch-returns : goal.if_branch-returns
unfolding branch_with
if_branch-returns t c = (goes _ _ tt c.expect.new.self _ c.in_ok-expect.ensures.gives (goes _ _ c.in_ok-guard.guard c.guarded.new.self _ c.in_ok-guard.ensures (goes_as _ _ c.in_ok-body.body.items c.block.new.self c.in_ok-body.ensures)))
    ∙ ap (λ p. Ok ((p, (c.in_ok-guard.guard, c.in_ok-body.body.items)), c.block.new.self)) (sym c.place-at.ensures)

pub branches-returns-in_err-further : goal.branches-returns-in_err-further
branches-returns-in_err-further t c = refused_as {C = Branch} branch_seen (λ (v : Vec Branch Global). map branch_seen v.items) (branch_with c.args.room (read_stmts c.args.room) c.skip.new.self) (branches_with c.args.room (read_stmts c.args.room) c.args.self.now) c.from_residual-in_err-further.result c.in_err-further.field-0.0 c.if_branch-in-loop-alloc.new.self c.if_branch-in-loop-alloc.new.self
    c.from_residual-in_err-further.ensures.1 c.in_err-further.ensures refl
    (λ x h. loop_stuck (λ us. sees (fixed (codes "else")) us && sees (fixed (codes "if")) (drop 1 us)) (λ us. branch_with c.args.room (read_stmts c.args.room) (drop 1 us)) (λ xs. xs) (map branch_seen c.loop-alloc.found.items) (branches_with c.args.room (read_stmts c.args.room) c.args.self.now) c.loop-alloc.self x c.loop-alloc.invariant (sym c.starts_else_if.ensures ∙ c.loop-alloc-test.true) (ap (branch_with c.args.room (read_stmts c.args.room)) (sym c.skip.ensures) ∙ h))

pub branches-loop-alloc-smaller : goal.branches-loop-alloc-smaller
branches-loop-alloc-smaller t c = less_behind c.loop-alloc.self (branch_with c.args.room (read_stmts c.args.room) (drop 1 c.loop-alloc.self)) (branch_shrinks c.args.room (drop 1 c.loop-alloc.self)) (branch_seen c.in_ok-further.further) c.if_branch-in-loop-alloc.new.self
    (ap (branch_with c.args.room (read_stmts c.args.room)) (sym c.skip.ensures) ∙ c.in_ok-further.ensures)

pub branches-loop-alloc-preserved : goal.branches-loop-alloc-preserved
branches-loop-alloc-preserved t c =
    let pushed = ap (map branch_seen) c.in_ok-push-2.ensures.items ∙ map_append branch_seen c.loop-alloc.found.items (c.in_ok-further.further ∷ []) in
    rw pushed (loop_more (λ us. sees (fixed (codes "else")) us && sees (fixed (codes "if")) (drop 1 us)) (λ us. branch_with c.args.room (read_stmts c.args.room) (drop 1 us)) (λ xs. xs) (map branch_seen c.loop-alloc.found.items) (λ us. less_behind us (branch_with c.args.room (read_stmts c.args.room) (drop 1 us)) (branch_shrinks c.args.room (drop 1 us))) (branches_with c.args.room (read_stmts c.args.room) c.args.self.now) c.loop-alloc.self (branch_seen c.in_ok-further.further) c.if_branch-in-loop-alloc.new.self
    c.loop-alloc.invariant (sym c.starts_else_if.ensures ∙ c.loop-alloc-test.true) (ap (branch_with c.args.room (read_stmts c.args.room)) (sym c.skip.ensures) ∙ c.in_ok-further.ensures))

pub branches-returns : goal.branches-returns
branches-returns t c = loop_end (λ us. sees (fixed (codes "else")) us && sees (fixed (codes "if")) (drop 1 us)) (λ us. branch_with c.args.room (read_stmts c.args.room) (drop 1 us)) (λ xs. xs) (map branch_seen c.loop-alloc.found.items) (branches_with c.args.room (read_stmts c.args.room) c.args.self.now) c.loop-alloc.self c.loop-alloc.invariant (sym c.starts_else_if.ensures ∙ c.loop-alloc-test.false)

pub statement-returns-in_err-form : goal.statement-returns-in_err-form
unfolding stmt_with
statement-returns-in_err-form t c = refused_as {C = StmtForm} action_of (λ a. a) (action_with c.args.room (read_stmts c.args.room) c.labels.new.self) (stmt_with c.args.room (read_stmts c.args.room) c.args.self.now) c.from_residual-in_err-form.result c.in_err-form.field-0.0 c.action.new.self c.action.new.self
    c.from_residual-in_err-form.ensures.1 c.in_err-form.ensures refl
    (λ x h. (goes _ _ c.in_ok-labels.labels.items c.labels.new.self _ c.in_ok-labels.ensures (stops_as _ _ x h)))

pub statement-returns : goal.statement-returns
unfolding stmt_with
statement-returns t c = (goes _ _ c.in_ok-labels.labels.items c.labels.new.self _ c.in_ok-labels.ensures (goes_as _ _ (action_of c.in_ok-form.form) c.action.new.self c.in_ok-form.ensures))
    ∙ (ap (λ p. Ok (stmt c.in_ok-labels.labels.items p (action_of c.in_ok-form.form), c.action.new.self)) (sym c.place-at.ensures) ∙ ap (λ s. Ok (s, c.action.new.self)) (sym c.new.ensures))

pub inner_statements-returns-then-room-gt0 : goal.inner_statements-returns-then-room-gt0
inner_statements-returns-then-room-gt0 t c = rw (room_stmts c.args.room c.args.self.now c.if-room-gt0.true) c.statements.ensures

pub statements-returns-in_err-further : goal.statements-returns-in_err-further
statements-returns-in_err-further t c = refused_as (λ n. n) (λ (v : Vec Stmt Global). v.items) (stmt_with c.args.room (read_stmts c.args.room) c.loop-alloc.self) (stmts_with c.args.room (read_stmts c.args.room) c.args.self.now) c.from_residual.result c.in_err-further.field-0.0 c.statement.new.self c.statement.new.self
    c.from_residual.ensures.1 c.in_err-further.ensures refl
    (λ x h. loop_stuck (sees_one stmt_firsts) (stmt_with c.args.room (read_stmts c.args.room)) (λ xs. xs) c.loop-alloc.found.items (stmts_with c.args.room (read_stmts c.args.room) c.args.self.now) c.loop-alloc.self x c.loop-alloc.invariant (sym c.starts_statement.ensures ∙ c.loop-alloc-test.true) h)

pub statements-loop-alloc-smaller : goal.statements-loop-alloc-smaller
statements-loop-alloc-smaller t c = stmt_shrinks c.args.room c.loop-alloc.self c.in_ok-further.further c.statement.new.self c.in_ok-further.ensures

pub statements-loop-alloc-preserved : goal.statements-loop-alloc-preserved
statements-loop-alloc-preserved t c = rw c.in_ok-push.ensures.items (loop_more (sees_one stmt_firsts) (stmt_with c.args.room (read_stmts c.args.room)) (λ xs. xs) c.loop-alloc.found.items (stmt_shrinks c.args.room) (stmts_with c.args.room (read_stmts c.args.room) c.args.self.now) c.loop-alloc.self c.in_ok-further.further c.statement.new.self
    c.loop-alloc.invariant (sym c.starts_statement.ensures ∙ c.loop-alloc-test.true) c.in_ok-further.ensures)

pub statements-returns : goal.statements-returns
statements-returns t c = loop_end (sees_one stmt_firsts) (stmt_with c.args.room (read_stmts c.args.room)) (λ xs. xs) c.loop-alloc.found.items (stmts_with c.args.room (read_stmts c.args.room) c.args.self.now) c.loop-alloc.self c.loop-alloc.invariant (sym c.starts_statement.ensures ∙ c.loop-alloc-test.false)

pub while_-returns-in_err-body : goal.while_-returns-in_err-body
unfolding while_with
while_-returns-in_err-body t c = refused_as {C = Vec Stmt Global} (λ v. v.items) action_of (block_with c.args.room (read_stmts c.args.room) c.invariants.new.self) (while_with c.args.room (read_stmts c.args.room) c.args.self.now) c.from_residual-in_err-body.result c.in_err-body.field-0.0 c.block.new.self c.block.new.self
    c.from_residual-in_err-body.ensures.1 c.in_err-body.ensures refl
    (λ x h. (goes _ _ tt c.expect.new.self _ c.in_ok-expect.ensures.gives (goes _ _ c.in_ok-guard.guard c.guarded.new.self _ c.in_ok-guard.ensures (goes _ _ c.in_ok-invariants.invariants.items c.invariants.new.self _ c.in_ok-invariants.ensures (stops_as _ _ x h)))))

pub while_-returns : goal.while_-returns
unfolding while_with
while_-returns t c = (goes _ _ tt c.expect.new.self _ c.in_ok-expect.ensures.gives (goes _ _ c.in_ok-guard.guard c.guarded.new.self _ c.in_ok-guard.ensures (goes _ _ c.in_ok-invariants.invariants.items c.invariants.new.self _ c.in_ok-invariants.ensures (goes_as _ _ c.in_ok-body.body.items c.block.new.self c.in_ok-body.ensures))))
