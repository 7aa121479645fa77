use Rattle.std.proofs.Common.{◌≡◌, ◌∙◌, sym, ap, subst, Some, true, rules}
use Rattle.logic_core.specs.Combine.{linear_of, combined}
use Rattle.linear_certs.specs.Multiplier.{may_multiply}
use Rattle.linear_certs.specs.FallingLaws.{EachSumFalls}
use Rattle.linear_certs.proofs.CombinedFalls.{combined_facts_fall}
use Rattle.proof_core.specs.Context.{with_fact}
use Rattle.proof_check.proofs.Combining.{combination_is}
use Rattle.proof_check.proofs.rules.combine.Goals as goal

pub new-least-requires : goal.new-least-requires
new-least-requires c =
    let of_f : linear_of c.args.f.now ≡ Some c.in_ok-d.d = search rules in
    let of_g : linear_of c.args.g.now ≡ Some c.in_ok-e.e = search rules in
    let sum : combined c.in_ok-d.d c.args.p c.in_ok-e.e c.args.q ≡ Some c.in_ok-sum.sum = search rules in
    subst EachSumFalls (sym c.in_ok-at_least_zero.ensures)
    (combined_facts_fall c.args.f.now c.args.g.now c.in_ok-d.d c.in_ok-e.e c.in_ok-sum.sum c.args.p c.args.q c.requires.first c.requires.second of_f of_g sum)

pub returns : goal.returns
returns c =
    let may_f : may_multiply c.args.p c.args.f.now ≡ true = search rules in
    let may_g : may_multiply c.args.q c.args.g.now ≡ true = search rules in
    let of_f : linear_of c.args.f.now ≡ Some c.in_ok-d.d = search rules in
    let of_g : linear_of c.args.g.now ≡ Some c.in_ok-e.e = search rules in
    let sum : combined c.in_ok-d.d c.args.p c.in_ok-e.e c.args.q ≡ Some c.in_ok-sum.sum = search rules in
    combination_is c.args.context.now c.args.f.now c.args.p c.args.g.now c.args.q c.in_ok-d.d c.in_ok-e.e c.in_ok-sum.sum may_f may_g of_f of_g sum
    ∙ ap Some (sym (c.in_ok-fact.ensures c.args.context.now ∙ ap (with_fact c.args.context.now) (c.new-least.ensures ∙ c.in_ok-at_least_zero.ensures)))
