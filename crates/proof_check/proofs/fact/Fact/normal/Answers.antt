use Rattle.std.proofs.Common.{◌≡◌, Some, [], rules}
use Rattle.logic_core.specs.Normal.{normal}
use Rattle.linear_certs.specs.FallingLaws.{EachSumFalls}
use Rattle.linear_certs.proofs.NormalFalls.{normal_sums_fall}
use Rattle.linear_certs.proofs.CombinedFalls.{found_has}
use Rattle.proof_check.proofs.fact.Fact.normal.Goals as goal

pub invariant_of-result : goal.invariant_of-result
invariant_of-result c =
    let form = normal c.args.vars.now c.args.defs.now [] c.args.t.now in
    let is : form ≡ Some c.in_ok-term.term = search rules in
    found_has EachSumFalls form c.in_ok-term.term is (normal_sums_fall c.args.vars.now c.args.defs.now [] c.args.t.now)
