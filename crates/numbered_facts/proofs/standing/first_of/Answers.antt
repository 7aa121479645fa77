use Rattle.std.proofs.Common.{length, arith}
use Rattle.tableau_branch.specs.Shapes.{has_shape}
use Rattle.numbered_terms.proofs.Items.{item_below}
use Rattle.numbered_facts.proofs.Found.{first_found, first_passed, none_found}
use Rattle.numbered_facts.proofs.standing.first_of.Goals as goal

pub returns-then-has_shape : goal.returns-then-has_shape
returns-then-has_shape c = let ts = c.args.terms.now in
    first_found ts (has_shape c.args.shape) c.args.ids.now c.loop-id.id-index c.id-item.result c.has_shape.result
    (item_below (length ts) c.args.ids.now c.loop-id.id-index c.id-item.result c.requires c.loop-id-test.true c.id-item.is)
    c.loop-id-test.true c.id-item.is c.loop-id.invariant c.has_shape.ensures c.if-has_shape.true

pub loop-id-preserved : goal.loop-id-preserved
loop-id-preserved c = first_passed c.args.terms.now (has_shape c.args.shape) c.args.ids.now c.loop-id.id-index c.id-item.result c.has_shape.result
    c.loop-id-test.true c.id-item.is c.loop-id.invariant c.has_shape.ensures c.if-has_shape.false

pub returns : goal.returns
returns c = none_found c.args.terms.now (has_shape c.args.shape) c.args.ids.now c.loop-id.id-index (omega (arith, c.loop-id-test.false)) c.loop-id.invariant

pub has_shape-requires : goal.has_shape-requires
has_shape-requires c = item_below (length c.args.terms.now) c.args.ids.now c.loop-id.id-index c.id-item.result c.requires c.loop-id-test.true c.id-item.is
