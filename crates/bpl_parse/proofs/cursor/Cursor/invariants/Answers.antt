use Rattle.std.proofs.Common.{◌∙◌, sym, refl, codes, ◌||◌}
use Rattle.bpl_grammar.specs.Terminal.{fixed, sees}
use Rattle.bpl_grammar.proofs.Loops.{loop_more, loop_end, loop_stuck}
use Rattle.bpl_grammar.specs.ReadStatements.{inv_with, invs_with}
use Rattle.bpl_grammar.proofs.StmtShrinks.{inv_shrinks}
use Rattle.bpl_parse.proofs.Refused.{refused_as}
use Rattle.bpl_parse.proofs.cursor.Cursor.invariants.Goals as goal

pub returns-in_err-further : goal.returns-in_err-further
returns-in_err-further c = refused_as (λ n. n) (λ v. v.items) (inv_with c.args.room c.loop-alloc.self) (invs_with c.args.room c.args.self.now) c.from_residual.result c.in_err-further.field-0.0 c.invariant.new.self c.invariant.new.self
    c.from_residual.ensures.1 c.in_err-further.ensures refl
    (λ x h. loop_stuck (λ us. sees (fixed (codes "free")) us || sees (fixed (codes "invariant")) us) (inv_with c.args.room) (λ xs. xs) c.loop-alloc.found.items (invs_with c.args.room c.args.self.now) c.loop-alloc.self x c.loop-alloc.invariant (sym c.starts_invariant.ensures ∙ c.loop-alloc-test.true) h)

pub loop-alloc-smaller : goal.loop-alloc-smaller
loop-alloc-smaller c = (inv_shrinks c.args.room) c.loop-alloc.self c.in_ok-further.further c.invariant.new.self c.in_ok-further.ensures

pub loop-alloc-preserved : goal.loop-alloc-preserved
loop-alloc-preserved c = rw c.in_ok-push.ensures.items (loop_more (λ us. sees (fixed (codes "free")) us || sees (fixed (codes "invariant")) us) (inv_with c.args.room) (λ xs. xs) c.loop-alloc.found.items (inv_shrinks c.args.room) (invs_with c.args.room c.args.self.now) c.loop-alloc.self c.in_ok-further.further c.invariant.new.self c.loop-alloc.invariant (sym c.starts_invariant.ensures ∙ c.loop-alloc-test.true) c.in_ok-further.ensures)

pub returns : goal.returns
returns c = loop_end (λ us. sees (fixed (codes "free")) us || sees (fixed (codes "invariant")) us) (inv_with c.args.room) (λ xs. xs) c.loop-alloc.found.items (invs_with c.args.room c.args.self.now) c.loop-alloc.self c.loop-alloc.invariant (sym c.starts_invariant.ensures ∙ c.loop-alloc-test.false)
