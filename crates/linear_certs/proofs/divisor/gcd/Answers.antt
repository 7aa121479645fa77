use Rattle.std.proofs.Common.{◌∙◌}
use Rattle.linear_certs.proofs.Euclid.{gcd_step}
use Rattle.linear_certs.proofs.divisor.gcd.Goals as goal

pub loop-rest-preserved : goal.loop-rest-preserved
loop-rest-preserved c = gcd_step c.loop-rest.divisor c.loop-rest.rest c.loop-rest-test.true ∙ c.loop-rest.invariant
