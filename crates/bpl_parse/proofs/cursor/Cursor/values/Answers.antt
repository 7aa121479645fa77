use Rattle.std.proofs.Common.{codes, ◌∙◌, sym, refl}
use Rattle.bpl_grammar.specs.Terminal.{fixed}
use Rattle.bpl_grammar.proofs.Loops.{behind_more, behind_smaller, behind_end, behind_stuck}
use Rattle.bpl_grammar.specs.ReadExpressions.{e_with, read_inner}
use Rattle.bpl_grammar.specs.ReadStatements.{values_with}
use Rattle.bpl_grammar.proofs.ExprShrinks.{e_shrinks}
use Rattle.bpl_parse.proofs.Refused.{refused_as}
use Rattle.bpl_parse.proofs.cursor.Cursor.values.Goals as goal

pub returns-in_err-further : goal.returns-in_err-further
returns-in_err-further c = refused_as (λ n. n) (λ v. v.items) (e_with c.args.room (read_inner c.args.room) c.skip.new.self) (values_with c.args.room c.args.self.now) c.from_residual-in_err-further.result c.in_err-further.field-0.0 c.equivalence-in-loop-alloc.new.self c.equivalence-in-loop-alloc.new.self
    c.from_residual-in_err-further.ensures.1 c.in_err-further.ensures refl
    (λ x h. behind_stuck (fixed (codes ",")) (e_with c.args.room (read_inner c.args.room)) (λ xs. xs) c.loop-alloc.found.items (values_with c.args.room c.args.self.now) c.loop-alloc.self c.skip.new.self x c.loop-alloc.invariant (sym c.sees.ensures ∙ c.loop-alloc-test.true) c.skip.ensures h)

pub loop-alloc-smaller : goal.loop-alloc-smaller
loop-alloc-smaller c = behind_smaller (fixed (codes ",")) (e_with c.args.room (read_inner c.args.room)) (λ xs. xs) c.loop-alloc.found.items (values_with c.args.room c.args.self.now) (e_shrinks c.args.room) c.loop-alloc.self c.skip.new.self c.in_ok-further.further c.equivalence-in-loop-alloc.new.self c.skip.ensures c.in_ok-further.ensures

pub loop-alloc-preserved : goal.loop-alloc-preserved
loop-alloc-preserved c = rw c.in_ok-push-2.ensures.items (behind_more (fixed (codes ",")) (e_with c.args.room (read_inner c.args.room)) (λ xs. xs) c.loop-alloc.found.items (values_with c.args.room c.args.self.now) (e_shrinks c.args.room) c.loop-alloc.self c.skip.new.self c.in_ok-further.further c.equivalence-in-loop-alloc.new.self c.loop-alloc.invariant (sym c.sees.ensures ∙ c.loop-alloc-test.true) c.skip.ensures c.in_ok-further.ensures)

pub returns : goal.returns
returns c = behind_end (fixed (codes ",")) (e_with c.args.room (read_inner c.args.room)) (λ xs. xs) c.loop-alloc.found.items (values_with c.args.room c.args.self.now) c.loop-alloc.self c.loop-alloc.invariant (sym c.sees.ensures ∙ c.loop-alloc-test.false)
