use Rattle.std.proofs.Common.{◌∙◌, [], ◌∷◌, ap, sym, refl, codes}
use Rattle.std.specs.Prelude.{Vec}
use Rattle.std.specs.declared.alloc.Global.{Global}
use Rattle.bpl_ast.specs.declared.expr.Group.{Group}
use Rattle.bpl_ast.specs.ExprView.{groups_of, each_groups_of}
use Rattle.bpl_grammar.specs.Terminal.{fixed, sees}
use Rattle.bpl_grammar.specs.ReadStatements.{var_with, vars_with}
use Rattle.bpl_grammar.proofs.Loops.{loop_more, loop_end, loop_stuck}
use Rattle.bpl_grammar.proofs.StmtShrinks.{var_shrinks}
use Rattle.bpl_parse.proofs.Refused.{refused_as}
use Rattle.bpl_parse.proofs.SeenLaws.{map_append}
use Rattle.bpl_parse.proofs.cursor.Cursor.locals.Goals as goal

pub returns-in_err-further : goal.returns-in_err-further
returns-in_err-further c = refused_as (λ (v : Vec Group Global). groups_of v.items) (λ (v : Vec (Vec Group Global) Global). each_groups_of v.items) (var_with c.args.room c.loop-alloc.self) (vars_with c.args.room c.args.self.now) c.from_residual.result c.in_err-further.field-0.0 c.variables.new.self c.variables.new.self
    c.from_residual.ensures.1 c.in_err-further.ensures refl
    (λ x h. loop_stuck (sees (fixed (codes "var"))) (var_with c.args.room) (λ xs. xs) (each_groups_of c.loop-alloc.found.items) (vars_with c.args.room c.args.self.now) c.loop-alloc.self x c.loop-alloc.invariant (sym c.sees.ensures ∙ c.loop-alloc-test.true) h)

pub loop-alloc-smaller : goal.loop-alloc-smaller
loop-alloc-smaller c = var_shrinks c.args.room c.loop-alloc.self (groups_of c.in_ok-further.further.items) c.variables.new.self c.in_ok-further.ensures

pub loop-alloc-preserved : goal.loop-alloc-preserved
loop-alloc-preserved c =
    let pushed = ap each_groups_of c.in_ok-push.ensures.items ∙ map_append (λ (v : Vec Group Global). groups_of v.items) c.loop-alloc.found.items (c.in_ok-further.further ∷ []) in
    rw pushed (loop_more (sees (fixed (codes "var"))) (var_with c.args.room) (λ xs. xs) (each_groups_of c.loop-alloc.found.items) (var_shrinks c.args.room) (vars_with c.args.room c.args.self.now) c.loop-alloc.self (groups_of c.in_ok-further.further.items) c.variables.new.self c.loop-alloc.invariant (sym c.sees.ensures ∙ c.loop-alloc-test.true) c.in_ok-further.ensures)

pub returns : goal.returns
returns c = loop_end (sees (fixed (codes "var"))) (var_with c.args.room) (λ xs. xs) (each_groups_of c.loop-alloc.found.items) (vars_with c.args.room c.args.self.now) c.loop-alloc.self c.loop-alloc.invariant (sym c.sees.ensures ∙ c.loop-alloc-test.false)
