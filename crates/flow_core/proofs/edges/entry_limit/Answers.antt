use Rattle.std.proofs.Common.{◌<◌, arith}
use Rattle.std.proofs.lemmas.Bool.{iff_false}
use Rattle.flow_core.specs.Graph.{Edge}
use Rattle.flow_core.proofs.Lists.{below_next}
use Rattle.flow_core.proofs.Blocks.{edge_from, edge_to, edge_there}
use Rattle.flow_core.proofs.edges.entry_limit.Goals as goal
use Rattle.flow_core.proofs.edges.entry_limit.Goals.{then-leads_to, else-leads_to}

pub loop-b-preserved : goal.loop-b-preserved
loop-b-preserved c =
    elim c.if-leads_to.branch [
      | then-leads_to w ↦ record {
        passed = omega arith;
        entered = λ low h. (c.loop-b.b, omega arith, edge_to c.args.blocks.now c.loop-b.b c.args.target c.index-blocks-b.result c.loop-b-test.true c.index-blocks-b.is (c.leads_to.ensures.0 w.if-leads_to.true));
        no_more = λ b h e. omega arith;
      }
      | else-leads_to w ↦ record {
        passed = omega arith;
        entered = λ low h. c.loop-b.invariant.entered low (omega arith);
        no_more = λ b h e. let less : b < c.loop-b.limit = below_next (λ b. Edge c.args.blocks.now b c.args.target → b < c.loop-b.limit) c.loop-b.b c.loop-b.invariant.no_more
            (λ e. absurd (iff_false c.leads_to.ensures w.if-leads_to.false (edge_from c.args.blocks.now c.loop-b.b c.args.target c.index-blocks-b.result c.loop-b-test.true c.index-blocks-b.is e))) b h e in omega arith;
      }
    ]

pub returns : goal.returns
returns c low = (
  c.loop-b.invariant.entered low,
  λ e.
      let there = edge_there c.args.blocks.now e.0 c.args.target e.2 in
      let less : e.0 < c.loop-b.limit = c.loop-b.invariant.no_more e.0 (omega arith) e.2 in omega (arith, e.1),
)
