use Rattle.std.proofs.Common.{◌≡◌, ◌+◌, ◌-◌, ◌^◌, ◌≤◌, ℕ, ℤ, get_or, map, drop}
use Rattle.logic_core.specs.Size.{capped}
use Rattle.numbered_terms.specs.Measures.{sum_over}
use Rattle.numbered_terms.proofs.measure.atom_sizes.Given as goal

abbrev pub invariant-loop-part : goal.invariant-loop-part
invariant-loop-part l = record {
  sum : capped (l.total + sum_over (λ i. get_or l.sizes i 0) (map (λ (p : ℤ × ℕ). p.1) (drop l.part-index l.parts))) ≡ capped (sum_over (λ i. get_or l.sizes i 0) (map (λ (p : ℤ × ℕ). p.1) l.parts));
  fits : l.total ≤ 2 ^ 64 - 1;
}
