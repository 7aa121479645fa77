use Rattle.std.proofs.Common.{◌≢◌, arith}
use Rattle.std.proofs.lemmas.Bool.{iff_false}
use Rattle.flow_core.specs.Graph.{Edge}
use Rattle.flow_core.proofs.Lists.{below_next, says_no}
use Rattle.flow_core.proofs.Blocks.{edge_from, edge_there}
use Rattle.flow_core.proofs.branches.has_other_predecessor.Goals as goal
use Rattle.flow_core.proofs.branches.has_other_predecessor.Goals.{else-a-b-via-then-a-b+else-leads_to, else-a-b-via-else-a-b}

pub loop-a-preserved : goal.loop-a-preserved
loop-a-preserved c =
    below_next (λ a. a ≢ c.args.b → Edge c.args.blocks.now a c.args.c → ⊥) c.loop-a.a c.loop-a.invariant (λ apart e.
    elim c.else-a-b.branch [
      | else-a-b-via-then-a-b+else-leads_to w ↦ iff_false w.leads_to.ensures w.if-leads_to.false (edge_from c.args.blocks.now c.loop-a.a c.args.c c.index-blocks-a.result c.loop-a-test.true c.index-blocks-a.is e)
      | else-a-b-via-else-a-b w ↦ apart w.if-a-b.false
    ])

pub returns : goal.returns
returns c = says_no (λ e. let there = edge_there c.args.blocks.now e.0 c.args.c e.2 in c.loop-a.invariant e.0 (omega arith) e.1 e.2)
