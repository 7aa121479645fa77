use Rattle.std.proofs.Common.{ℕ, ◌<◌, length, arith}
use Rattle.std.proofs.lemmas.Bool.{iff_false}
use Rattle.flow_core.specs.Graph.{Edge}
use Rattle.flow_core.specs.Plain.{Branches, IsOnlyEdge}
use Rattle.flow_core.proofs.Lists.{below_next, says_yes, says_no}
use Rattle.flow_core.proofs.Blocks.{from_place, to_place, branch_there}
use Rattle.flow_core.proofs.branches.branches_are_plain.Goals as goal
use Rattle.flow_core.proofs.branches.branches_are_plain.Goals.{else-len-gt1-via-then-len-gt1+else-not-has_only_edges, else-len-gt1-via-else-len-gt1}

pub returns-then-not-has_only_edges : goal.returns-then-not-has_only_edges
returns-then-not-has_only_edges c = says_no (λ plain. iff_false c.has_only_edges.ensures c.if-not-has_only_edges.true (λ d e.
    plain c.loop-b.b d (to_place (λ k. 1 < length k.next) c.args.blocks.now c.loop-b.b c.index-blocks-b.result c.loop-b-test.true c.index-blocks-b.is (omega (arith, c.if-len-gt1.true, c.len.ensures))) e))

pub loop-b-preserved : goal.loop-b-preserved
loop-b-preserved c =
    below_next (λ b. Branches c.args.blocks.now b → (d : ℕ) → Edge c.args.blocks.now b d → IsOnlyEdge c.args.blocks.now b d) c.loop-b.b c.loop-b.invariant (λ several.
    elim c.else-len-gt1.branch [
      | else-len-gt1-via-then-len-gt1+else-not-has_only_edges w ↦ w.has_only_edges.ensures.0 w.if-not-has_only_edges.false
      | else-len-gt1-via-else-len-gt1 w ↦ let many = from_place (λ k. 1 < length k.next) c.args.blocks.now c.loop-b.b c.index-blocks-b.result c.loop-b-test.true c.index-blocks-b.is several in omega (arith, many, w.if-len-gt1.false, c.len.ensures)
    ])

pub returns : goal.returns
returns c = says_yes (λ b d several e. let there = branch_there c.args.blocks.now b several in c.loop-b.invariant b (omega arith) several d e)
