use Rattle.std.proofs.Common.{◌∙◌, sym, refl, codes}
use Rattle.bpl_grammar.specs.Terminal.{fixed, sees}
use Rattle.bpl_grammar.proofs.Loops.{loop_more, loop_end, loop_stuck}
use Rattle.bpl_grammar.specs.ReadStatements.{entry_with, entries_with}
use Rattle.bpl_grammar.proofs.StmtShrinks.{entry_shrinks}
use Rattle.bpl_parse.proofs.Refused.{refused_as}
use Rattle.bpl_parse.proofs.cursor.Cursor.entries.Goals as goal

pub returns-in_err-further : goal.returns-in_err-further
returns-in_err-further c = refused_as (λ n. n) (λ v. v.items) (entry_with c.args.room c.loop-alloc.self) (entries_with c.args.room c.args.self.now) c.from_residual.result c.in_err-further.field-0.0 c.entry.new.self c.entry.new.self
    c.from_residual.ensures.1 c.in_err-further.ensures refl
    (λ x h. loop_stuck (sees (fixed (codes "["))) (entry_with c.args.room) (λ xs. xs) c.loop-alloc.found.items (entries_with c.args.room c.args.self.now) c.loop-alloc.self x c.loop-alloc.invariant (sym c.sees.ensures ∙ c.loop-alloc-test.true) h)

pub loop-alloc-smaller : goal.loop-alloc-smaller
loop-alloc-smaller c = (entry_shrinks c.args.room) c.loop-alloc.self c.in_ok-further.further c.entry.new.self c.in_ok-further.ensures

pub loop-alloc-preserved : goal.loop-alloc-preserved
loop-alloc-preserved c = rw c.in_ok-push.ensures.items (loop_more (sees (fixed (codes "["))) (entry_with c.args.room) (λ xs. xs) c.loop-alloc.found.items (entry_shrinks c.args.room) (entries_with c.args.room c.args.self.now) c.loop-alloc.self c.in_ok-further.further c.entry.new.self c.loop-alloc.invariant (sym c.sees.ensures ∙ c.loop-alloc-test.true) c.in_ok-further.ensures)

pub returns : goal.returns
returns c = loop_end (sees (fixed (codes "["))) (entry_with c.args.room) (λ xs. xs) c.loop-alloc.found.items (entries_with c.args.room c.args.self.now) c.loop-alloc.self c.loop-alloc.invariant (sym c.sees.ensures ∙ c.loop-alloc-test.false)
