use Rattle.std.proofs.Common.{◌≡◌, ◌≢◌, ℕ, nat_lt, ◌&&◌, true, false, ◌∙◌, sym, ap, arith}
use Rattle.std.specs.List.{list_any}
use Rattle.std.proofs.lemmas.Bool.{iff_false}
use Rattle.flow_core.specs.Graph.{Edge}
use Rattle.flow_core.specs.Plain.{InLoop}
use Rattle.flow_core.proofs.Lists.{below_next, says_yes, says_no}
use Rattle.flow_core.proofs.Blocks.{edge_there}
use Rattle.flow_core.proofs.LoopEdges.{inside, enters, stays_out}
use Rattle.flow_core.proofs.loops.loop_is_plain.Goals as goal
use Rattle.flow_core.proofs.loops.loop_is_plain.Goals.{else-not-inside-via-then-not-inside+else-has_between, else-not-inside-via-else-not-inside}

pub returns-then-has_between : goal.returns-then-has_between
returns-then-has_between c =
    let enter : list_any (λ n. nat_lt c.args.head n && nat_lt n c.entry_limit-limit.result) c.index-blocks-b.result.next ≡ true = ap (list_any (λ n. nat_lt c.args.head n && nat_lt n c.entry_limit-limit.result)) (sym c.as_slice.ensures) ∙ sym c.has_between.ensures ∙ c.if-has_between.true in
    says_no (enters c.args.blocks.now c.args.head c.entry_limit-limit.result c.entry_limit-limit.ensures c.loop-b.b c.index-blocks-b.result c.loop-b-test.true c.index-blocks-b.is (iff_false c.is_between-inside.ensures c.if-not-inside.true) enter)

pub loop-b-preserved : goal.loop-b-preserved
loop-b-preserved c =
    below_next (λ b. (d : ℕ) → Edge c.args.blocks.now b d → InLoop c.args.blocks.now c.args.head d → d ≢ c.args.head → InLoop c.args.blocks.now c.args.head b) c.loop-b.b c.loop-b.invariant (λ d e loop apart.
    elim c.else-not-inside.branch [
      | else-not-inside-via-then-not-inside+else-has_between w ↦
          let stays : list_any (λ n. nat_lt c.args.head n && nat_lt n c.entry_limit-limit.result) c.index-blocks-b.result.next ≡ false = ap (list_any (λ n. nat_lt c.args.head n && nat_lt n c.entry_limit-limit.result)) (sym w.as_slice.ensures) ∙ sym w.has_between.ensures ∙ w.if-has_between.false in
          absurd (stays_out c.args.blocks.now c.args.head c.entry_limit-limit.result c.entry_limit-limit.ensures c.loop-b.b c.index-blocks-b.result c.loop-b-test.true c.index-blocks-b.is stays d e loop apart)
      | else-not-inside-via-else-not-inside w ↦
          let both = c.is_between-inside.ensures.0 w.if-not-inside.false in
          inside c.args.blocks.now c.args.head c.entry_limit-limit.result c.entry_limit-limit.ensures c.loop-b.b both.0 both.1
    ])

pub returns : goal.returns
returns c = says_yes (λ b d e. let there = edge_there c.args.blocks.now b d e in c.loop-b.invariant b (omega arith) d e)
