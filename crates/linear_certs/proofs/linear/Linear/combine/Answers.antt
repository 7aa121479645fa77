use Rattle.std.proofs.Common.{◌≡◌, Some, rules}
use Rattle.logic_core.specs.Combine.{combined}
use Rattle.linear_certs.proofs.CombinedFalls.{combination_falls}
use Rattle.linear_certs.proofs.linear.Linear.combine.Goals as goal

pub invariant_of-result : goal.invariant_of-result
invariant_of-result c =
    let sum : combined c.a.inside.sum c.args.p c.b.inside.sum c.args.q ≡ Some c.in_ok-sum.sum = search rules in
    combination_falls c.a.inside.sum c.b.inside.sum c.in_ok-sum.sum c.args.p c.args.q sum
