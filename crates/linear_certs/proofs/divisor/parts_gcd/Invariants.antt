use Rattle.std.proofs.Common.{◌≡◌, ◌≤◌, drop, length}
use Rattle.logic_core.specs.View.{parts_of}
use Rattle.logic_core.specs.Tighten.{parts_gcd}
use Rattle.linear_certs.proofs.divisor.parts_gcd.Given as goal

abbrev pub invariant-loop-left : goal.invariant-loop-left
invariant-loop-left l = record {
  divides : l.divisor ≡ parts_gcd (parts_of (drop l.left l.parts));
  within : l.left ≤ length l.parts;
}

abbrev pub decreases-loop-left : goal.decreases-loop-left
decreases-loop-left l = l.left
