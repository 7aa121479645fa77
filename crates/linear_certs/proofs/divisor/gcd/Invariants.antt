use Rattle.std.proofs.Common.{◌≡◌}
use Rattle.logic_core.specs.Tighten.{gcd}
use Rattle.linear_certs.proofs.divisor.gcd.Given as goal

abbrev pub invariant-loop-rest : goal.invariant-loop-rest
invariant-loop-rest l = gcd l.divisor l.rest ≡ gcd l.a l.b

abbrev pub decreases-loop-rest : goal.decreases-loop-rest
decreases-loop-rest l = l.rest
