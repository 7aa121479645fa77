use Rattle.std.proofs.Common.{◌≡◌, map, take, ℤ, ℕ}
use Rattle.numbered_terms.proofs.renumber.atom_numbers.Given as goal

abbrev pub invariant-loop-part : goal.invariant-loop-part
invariant-loop-part l = l.numbers.items ≡ map (λ (p : ℤ × ℕ). p.1) (take l.part-index l.parts)
