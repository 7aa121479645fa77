use Rattle.std.proofs.Common.{◌≡◌, ◌∙◌, refl, sym, ap, FitsSigned, rules}
use Rattle.std.specs.Int.{w128}
use Rattle.std.proofs.lemmas.Int.{to_z-of_z}
use Rattle.logic_core.specs.View.{parts_of}
use Rattle.logic_core.specs.Before.{part_before}
use Rattle.logic_core.specs.Tighten.{floor_div, divided}
use Rattle.logic_core.proofs.Made.{made_more, made_all, parts_before_none}
use Rattle.linear_certs.proofs.divisor.divided.Goals as goal

pub loop-part-preserved : goal.loop-part-preserved
loop-part-preserved c =
    let whole : FitsSigned w128 c.part-item.result.0 = search rules in
    let fits : FitsSigned w128 c.floor_div.result = search rules in
    let quotient : c.floor_div.result ≡ floor_div c.part-item.result.0 c.args.g = c.floor_div.ensures ∙ ap (λ k. floor_div k c.args.g) (to_z-of_z w128 c.part-item.result.0 whole) in
    made_more part_before (λ ys. divided c.args.g (parts_of ys)) c.args.parts.now _ _ c.loop-part.part-index _ _ _ c.loop-part-test.true c.part-item.is c.in_ok-push.ensures.items c.loop-part.invariant (rw (to_z-of_z w128 _ fits, quotient, c.in_ok-copy.ensures) refl)

pub returns : goal.returns
returns c = sym (parts_before_none c.loop-part.quotients.items) ∙ made_all part_before (λ ys. divided c.args.g (parts_of ys)) c.args.parts.now _ c.loop-part.part-index _ c.loop-part-test.false c.loop-part.invariant
