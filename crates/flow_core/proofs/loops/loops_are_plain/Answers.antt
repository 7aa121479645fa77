use Rattle.std.proofs.Common.{◌∙◌, sym, arith}
use Rattle.std.specs.Prelude.{IsSome}
use Rattle.std.proofs.lemmas.Bool.{iff_false, both_ways}
use Rattle.flow_core.specs.Plain.{IsHead, LoopIsPlain}
use Rattle.flow_core.proofs.Lists.{below_next, says_yes, says_no}
use Rattle.flow_core.proofs.Blocks.{from_place, to_place, head_there}
use Rattle.flow_core.proofs.loops.loops_are_plain.Goals as goal
use Rattle.flow_core.proofs.loops.loops_are_plain.Goals.{else-is_some-via-then-is_some+else-not-loop_is_plain, else-is_some-via-else-is_some}

pub returns-then-not-loop_is_plain : goal.returns-then-not-loop_is_plain
returns-then-not-loop_is_plain c = says_no (λ plain. iff_false c.loop_is_plain.ensures c.if-not-loop_is_plain.true
    (plain c.loop-h.h (to_place (λ k. IsSome k.head) c.args.blocks.now c.loop-h.h c.index-blocks-h.result c.loop-h-test.true c.index-blocks-h.is (sym c.is_some.ensures ∙ c.if-is_some.true))))

pub loop-h-preserved : goal.loop-h-preserved
loop-h-preserved c =
    below_next (λ h. IsHead c.args.blocks.now h → LoopIsPlain c.args.blocks.now h) c.loop-h.h c.loop-h.invariant (λ head.
    elim c.else-is_some.branch [
      | else-is_some-via-then-is_some+else-not-loop_is_plain w ↦ w.loop_is_plain.ensures.0 w.if-not-loop_is_plain.false
      | else-is_some-via-else-is_some w ↦ let some = from_place (λ k. IsSome k.head) c.args.blocks.now c.loop-h.h c.index-blocks-h.result c.loop-h-test.true c.index-blocks-h.is head in absurd (both_ways c.is_some.result w.if-is_some.false (c.is_some.ensures ∙ some))
    ])

pub returns : goal.returns
returns c = says_yes (λ h head. let there = head_there c.args.blocks.now h head in c.loop-h.invariant h (omega arith) head)
