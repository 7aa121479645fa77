use Rattle.std.proofs.Common.{◌≡◌, ◌+◌, ◌-◌, ◌^◌, ◌≤◌, get_or, drop}
use Rattle.logic_core.specs.Size.{capped}
use Rattle.numbered_terms.specs.Measures.{sum_over}
use Rattle.numbered_terms.proofs.measure.sizes_of.Given as goal

abbrev pub invariant-loop-id : goal.invariant-loop-id
invariant-loop-id l = record {
  sum : capped (l.total + sum_over (λ i. get_or l.sizes i 0) (drop l.id-index l.ids)) ≡ capped (sum_over (λ i. get_or l.sizes i 0) (l.ids));
  fits : l.total ≤ 2 ^ 64 - 1;
}
