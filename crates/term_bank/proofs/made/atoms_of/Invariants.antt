use Rattle.std.proofs.Common.{◌≡◌, map, take}
use Rattle.term_bank.proofs.made.atoms_of.Given as goal

abbrev pub invariant-loop-i : goal.invariant-loop-i
invariant-loop-i l = record {
  numbers : map (λ p. p.1) l.atoms.items ≡ take l.i l.numbers;
  coefficients : map (λ p. p.0) l.atoms.items ≡ map (λ p. p.0) (take l.i l.parts);
}
