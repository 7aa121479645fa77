use Rattle.std.proofs.Common.{codes, [], ◌∙◌, sym, refl}
use Rattle.bpl_grammar.specs.Terminal.{fixed, sees}
use Rattle.bpl_grammar.specs.ReadExpressions.{attr_with, attrs_with, read_inner}
use Rattle.bpl_grammar.proofs.ExprShrinks.{attr_shrinks}
use Rattle.bpl_grammar.proofs.Loops.{loop_more, loop_end, loop_stuck}
use Rattle.bpl_parse.proofs.Refused.{refused_as}
use Rattle.bpl_parse.proofs.cursor.Cursor.attributes.Goals as goal

pub returns-in_err-attribute : goal.returns-in_err-attribute
returns-in_err-attribute c = refused_as (λ n. n) (λ n. n) (attr_with c.args.room (read_inner c.args.room) c.loop-alloc.self) (attrs_with c.args.room (read_inner c.args.room) c.args.self.now) c.from_residual.result c.in_err-attribute.field-0.0 c.attribute.new.self c.attribute.new.self
    c.from_residual.ensures.1 c.in_err-attribute.ensures refl
    (λ x h. loop_stuck (sees (fixed (codes "{"))) (attr_with c.args.room (read_inner c.args.room)) (λ us. tt {0}) [] (attrs_with c.args.room (read_inner c.args.room) c.args.self.now) c.loop-alloc.self x c.loop-alloc.invariant (sym c.sees.ensures ∙ c.loop-alloc-test.true) h)

pub loop-alloc-smaller : goal.loop-alloc-smaller
loop-alloc-smaller c = attr_shrinks c.args.room c.loop-alloc.self (tt {0}) c.attribute.new.self c.in_ok-attribute.ensures

pub loop-alloc-preserved : goal.loop-alloc-preserved
loop-alloc-preserved c = loop_more (sees (fixed (codes "{"))) (attr_with c.args.room (read_inner c.args.room)) (λ us. tt {0}) [] (attr_shrinks c.args.room) (attrs_with c.args.room (read_inner c.args.room) c.args.self.now) c.loop-alloc.self (tt {0}) c.attribute.new.self c.loop-alloc.invariant (sym c.sees.ensures ∙ c.loop-alloc-test.true) c.in_ok-attribute.ensures

pub returns : goal.returns
returns c = loop_end (sees (fixed (codes "{"))) (attr_with c.args.room (read_inner c.args.room)) (λ us. tt {0}) [] (attrs_with c.args.room (read_inner c.args.room) c.args.self.now) c.loop-alloc.self c.loop-alloc.invariant (sym c.sees.ensures ∙ c.loop-alloc-test.false)
