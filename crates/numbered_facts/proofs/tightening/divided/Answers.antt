use Rattle.std.proofs.Common.{◌≡◌, ◌∙◌, refl, ap, FitsSigned, arith, rules}
use Rattle.std.specs.Int.{w128}
use Rattle.std.proofs.lemmas.Int.{to_z-of_z}
use Rattle.logic_core.specs.Tighten.{floor_div}
use Rattle.numbered_facts.proofs.Quotients.{divided_next, divided_all}
use Rattle.numbered_facts.proofs.tightening.divided.Goals as goal

pub loop-part-preserved : goal.loop-part-preserved
loop-part-preserved c =
    let whole : FitsSigned w128 c.part-item.result.0 = search rules in
    let fits : FitsSigned w128 c.floor_div.result = search rules in
    let quotient : c.floor_div.result ≡ floor_div c.part-item.result.0 c.args.g = c.floor_div.ensures ∙ ap (λ k. floor_div k c.args.g) (to_z-of_z w128 c.part-item.result.0 whole) in
    divided_next c.args.g c.args.parts.now c.loop-part.part-index c.part-item.result _ c.loop-part.quotients.items c.push.new.self.items c.loop-part-test.true c.part-item.is
    c.loop-part.invariant c.in_ok-push.ensures.items (rw (to_z-of_z w128 _ fits, quotient) refl)

pub returns-clause-parts : goal.returns-clause-parts
returns-clause-parts c = divided_all c.args.g c.args.parts.now c.loop-part.part-index c.loop-part.quotients.items (omega (arith, c.loop-part-test.false)) c.loop-part.invariant
