use Rattle.std.proofs.Common.{◌≡◌, length, drop, map, ◌∙◌, ap, arith}
use Rattle.std.specs.List.{range_with_len}
use Rattle.passive_form.proofs.FirstWritten.{by_pairs, none_written, written_before}
use Rattle.passive_form.proofs.blocks.first_incarnations.Goals as goal

pub loop-i-init : goal.loop-i-init
loop-i-init c = c.new-numbers.ensures ∙ c.in_ok-own_numbers.ensures ∙ none_written c.olds-olds.result.now (length c.args.vars.now)

pub loop-i-preserved : goal.loop-i-preserved
loop-i-preserved c = let e = c.renew.ensures in c.renew.ensures ∙ written_before c.olds-olds.result.now c.loop-i.i (length c.args.vars.now) c.loop-i.numbers _ c.loop-i-test.true c.loop-i.auto.i c.loop-i.invariant

pub returns : goal.returns
returns c =
    let first : c.loop-i.i ≡ 0 = omega arith in
    c.loop-i.invariant ∙ ap (λ i. map (by_pairs (drop i c.olds-olds.result.now)) (range_with_len 0 (length c.args.vars.now))) first ∙ ap (λ olds. map (by_pairs olds) (range_with_len 0 (length c.args.vars.now))) c.olds-olds.ensures.pairs
