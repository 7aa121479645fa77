use Rattle.std.proofs.Common.{◌≡◌, ℕ, ◌<◌, nat_lt, true, false, arith}
use Rattle.std.specs.List.{list_all}
use Rattle.flow_core.specs.Graph.{Edge}
use Rattle.flow_core.proofs.Lists.{below_next, says_yes, says_no}
use Rattle.flow_core.proofs.Blocks.{edge_there}
use Rattle.flow_core.proofs.RisingEdges.{rises, falls}
use Rattle.flow_core.proofs.rising.edges_rise.Goals as goal

pub returns-then-not-all_above : goal.returns-then-not-all_above
returns-then-not-all_above c = let no : list_all (λ n. nat_lt c.loop-b.b n) c.index-blocks-b.result.next ≡ false = cc in says_no (falls c.args.blocks.now c.loop-b.b c.index-blocks-b.result c.loop-b-test.true c.index-blocks-b.is no)

pub loop-b-preserved : goal.loop-b-preserved
loop-b-preserved c b d h e = let yes : list_all (λ n. nat_lt c.loop-b.b n) c.index-blocks-b.result.next ≡ true = cc in
    below_next (λ b. (d : ℕ) → Edge c.args.blocks.now b d → b < d) c.loop-b.b (λ a l d e. c.loop-b.invariant a d l e)
    (rises c.args.blocks.now c.loop-b.b c.index-blocks-b.result c.loop-b-test.true c.index-blocks-b.is yes) b h d e

pub returns : goal.returns
returns c = says_yes (λ b d e. let there = edge_there c.args.blocks.now b d e in c.loop-b.invariant b d (omega arith) e)
