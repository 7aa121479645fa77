use Rattle.std.proofs.Common.{◌≡◌, ◌≤◌, drop, length}
use Rattle.numbered_facts.specs.Tightening.{atoms_gcd}
use Rattle.numbered_facts.proofs.tightening.atoms_gcd.Given as goal

abbrev pub invariant-loop-left : goal.invariant-loop-left
invariant-loop-left l = record {
  divides : l.divisor ≡ atoms_gcd (drop l.left l.parts);
  within : l.left ≤ length l.parts;
}

abbrev pub decreases-loop-left : goal.decreases-loop-left
decreases-loop-left l = l.left
