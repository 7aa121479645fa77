use Rattle.std.proofs.Common.{◌∙◌, sym, refl, codes, drop, ◌&&◌}
use Rattle.bpl_lex.specs.Token.{id}
use Rattle.bpl_grammar.specs.Terminal.{kind, fixed, sees}
use Rattle.bpl_grammar.proofs.Loops.{loop_more, loop_end, loop_stuck}
use Rattle.bpl_grammar.specs.ReadStatements.{read_label, read_labels}
use Rattle.bpl_grammar.proofs.StmtShrinks.{label_shrinks}
use Rattle.bpl_parse.proofs.Refused.{refused_as}
use Rattle.bpl_parse.proofs.cursor.Cursor.labels.Goals as goal

pub returns-in_err-further : goal.returns-in_err-further
returns-in_err-further c = refused_as (λ n. n) (λ v. v.items) (read_label c.loop-alloc.self) (read_labels c.args.self.now) c.from_residual.result c.in_err-further.field-0.0 c.label.new.self c.label.new.self
    c.from_residual.ensures.1 c.in_err-further.ensures refl
    (λ x h. loop_stuck (λ us. sees (kind id) us && sees (fixed (codes ":")) (drop 1 us)) (read_label) (λ xs. xs) c.loop-alloc.found.items (read_labels c.args.self.now) c.loop-alloc.self x c.loop-alloc.invariant (sym c.starts_label.ensures ∙ c.loop-alloc-test.true) h)

pub loop-alloc-smaller : goal.loop-alloc-smaller
loop-alloc-smaller c = label_shrinks c.loop-alloc.self c.in_ok-further.further c.label.new.self c.in_ok-further.ensures

pub loop-alloc-preserved : goal.loop-alloc-preserved
loop-alloc-preserved c = rw c.in_ok-push.ensures.items (loop_more (λ us. sees (kind id) us && sees (fixed (codes ":")) (drop 1 us)) (read_label) (λ xs. xs) c.loop-alloc.found.items label_shrinks (read_labels c.args.self.now) c.loop-alloc.self c.in_ok-further.further c.label.new.self c.loop-alloc.invariant (sym c.starts_label.ensures ∙ c.loop-alloc-test.true) c.in_ok-further.ensures)

pub returns : goal.returns
returns c = loop_end (λ us. sees (kind id) us && sees (fixed (codes ":")) (drop 1 us)) (read_label) (λ xs. xs) c.loop-alloc.found.items (read_labels c.args.self.now) c.loop-alloc.self c.loop-alloc.invariant (sym c.starts_label.ensures ∙ c.loop-alloc-test.false)
