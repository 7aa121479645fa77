use Rattle.std.proofs.Common.{codes, ◌∙◌, sym, refl}
use Rattle.bpl_grammar.specs.Terminal.{fixed}
use Rattle.bpl_grammar.specs.Reading.{listed}
use Rattle.bpl_grammar.specs.ReadTypes.{read_type}
use Rattle.bpl_parse.proofs.Refused.{refused_as}
use Rattle.bpl_grammar.proofs.Loops.{behind_more, behind_smaller, behind_end, behind_stuck}
use Rattle.bpl_grammar.proofs.Rooms.{room_type}
use Rattle.bpl_grammar.proofs.TypeTrees.{type_shrinks}
use Rattle.bpl_parse.proofs.cursor.Cursor.+types.Goals as goal

pub types-returns-in_err-further : goal.types-returns-in_err-further
types-returns-in_err-further t c = refused_as (λ n. n) (λ v. v.items) (read_type c.args.room c.skip.new.self) (listed (read_type c.args.room) c.args.self.now) c.from_residual-in_err-further.result c.in_err-further.field-0.0 c.type_-in-loop-alloc.new.self c.type_-in-loop-alloc.new.self
    c.from_residual-in_err-further.ensures.1 c.in_err-further.ensures refl
    (λ x h. behind_stuck (fixed (codes ",")) (read_type c.args.room) (λ xs. xs) c.loop-alloc.found.items (listed (read_type c.args.room) c.args.self.now) c.loop-alloc.self c.skip.new.self x c.loop-alloc.invariant (sym c.sees.ensures ∙ c.loop-alloc-test.true) c.skip.ensures h)

pub types-loop-alloc-smaller : goal.types-loop-alloc-smaller
types-loop-alloc-smaller t c = behind_smaller (fixed (codes ",")) (read_type c.args.room) (λ xs. xs) c.loop-alloc.found.items (listed (read_type c.args.room) c.args.self.now) (type_shrinks c.args.room) c.loop-alloc.self c.skip.new.self c.in_ok-further.further c.type_-in-loop-alloc.new.self c.skip.ensures c.in_ok-further.ensures

pub types-loop-alloc-preserved : goal.types-loop-alloc-preserved
types-loop-alloc-preserved t c = rw c.in_ok-push-2.ensures.items (behind_more (fixed (codes ",")) (read_type c.args.room) (λ xs. xs) c.loop-alloc.found.items (listed (read_type c.args.room) c.args.self.now) (type_shrinks c.args.room) c.loop-alloc.self c.skip.new.self c.in_ok-further.further c.type_-in-loop-alloc.new.self c.loop-alloc.invariant (sym c.sees.ensures ∙ c.loop-alloc-test.true) c.skip.ensures c.in_ok-further.ensures)

pub types-returns : goal.types-returns
types-returns t c = behind_end (fixed (codes ",")) (read_type c.args.room) (λ xs. xs) c.loop-alloc.found.items (listed (read_type c.args.room) c.args.self.now) c.loop-alloc.self c.loop-alloc.invariant (sym c.sees.ensures ∙ c.loop-alloc-test.false)

pub type_-returns-then-room-gt0 : goal.type_-returns-then-room-gt0
type_-returns-then-room-gt0 t c = rw (room_type c.args.room c.args.self.now c.if-room-gt0.true) c.roomy_type.ensures
