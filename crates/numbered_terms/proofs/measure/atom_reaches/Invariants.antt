use Rattle.std.proofs.Common.{◌≡◌, ℕ, ℤ, max, get_or, map, drop}
use Rattle.numbered_terms.specs.Measures.{most_over}
use Rattle.numbered_terms.proofs.measure.atom_reaches.Given as goal

abbrev pub invariant-loop-part : goal.invariant-loop-part
invariant-loop-part l = max l.most (most_over (λ i. get_or l.reaches i 0) (map (λ (p : ℤ × ℕ). p.1) (drop l.part-index l.parts))) ≡ most_over (λ i. get_or l.reaches i 0) (map (λ (p : ℤ × ℕ). p.1) l.parts)
