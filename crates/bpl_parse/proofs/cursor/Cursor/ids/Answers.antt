use Rattle.std.proofs.Common.{codes, ◌∙◌, sym, refl}
use Rattle.bpl_grammar.specs.Terminal.{fixed}
use Rattle.bpl_grammar.specs.Reading.{read_name, read_ids}
use Rattle.bpl_parse.proofs.Refused.{refused_as}
use Rattle.bpl_grammar.proofs.Loops.{behind_more, behind_smaller, behind_end, behind_stuck}
use Rattle.bpl_grammar.proofs.Found.{name_shrinks}
use Rattle.bpl_parse.proofs.cursor.Cursor.ids.Goals as goal

pub returns-in_err-further : goal.returns-in_err-further
returns-in_err-further c = refused_as (λ n. n) (λ v. v.items) (read_name c.skip.new.self) (read_ids c.args.self.now) c.from_residual-in_err-further.result c.in_err-further.field-0.0 c.name-in-loop-alloc.new.self c.name-in-loop-alloc.new.self
    c.from_residual-in_err-further.ensures.1 c.in_err-further.ensures refl
    (λ x h. behind_stuck (fixed (codes ",")) read_name (λ xs. xs) c.loop-alloc.names.items (read_ids c.args.self.now) c.loop-alloc.self c.skip.new.self x c.loop-alloc.invariant (sym c.sees.ensures ∙ c.loop-alloc-test.true) c.skip.ensures h)

pub loop-alloc-smaller : goal.loop-alloc-smaller
loop-alloc-smaller c = behind_smaller (fixed (codes ",")) read_name (λ xs. xs) c.loop-alloc.names.items (read_ids c.args.self.now) name_shrinks c.loop-alloc.self c.skip.new.self c.in_ok-further.further c.name-in-loop-alloc.new.self c.skip.ensures c.in_ok-further.ensures

pub loop-alloc-preserved : goal.loop-alloc-preserved
loop-alloc-preserved c = rw c.in_ok-push-2.ensures.items (behind_more (fixed (codes ",")) read_name (λ xs. xs) c.loop-alloc.names.items (read_ids c.args.self.now) name_shrinks c.loop-alloc.self c.skip.new.self c.in_ok-further.further c.name-in-loop-alloc.new.self c.loop-alloc.invariant (sym c.sees.ensures ∙ c.loop-alloc-test.true) c.skip.ensures c.in_ok-further.ensures)

pub returns : goal.returns
returns c = behind_end (fixed (codes ",")) read_name (λ xs. xs) c.loop-alloc.names.items (read_ids c.args.self.now) c.loop-alloc.self c.loop-alloc.invariant (sym c.sees.ensures ∙ c.loop-alloc-test.false)
