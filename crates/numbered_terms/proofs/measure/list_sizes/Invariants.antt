use Rattle.std.proofs.Common.{◌≡◌, ◌+◌, ◌-◌, ◌^◌, ◌≤◌, get_or, drop}
use Rattle.logic_core.specs.Size.{capped}
use Rattle.term_bank.specs.Node.{in_lists}
use Rattle.numbered_terms.specs.Measures.{sum_over}
use Rattle.numbered_terms.proofs.measure.list_sizes.Given as goal

abbrev pub invariant-loop-list : goal.invariant-loop-list
invariant-loop-list l = record {
  sum : capped (l.total + sum_over (λ i. get_or l.sizes i 0) (in_lists (drop l.list-index l.lists))) ≡ capped (sum_over (λ i. get_or l.sizes i 0) (in_lists l.lists));
  fits : l.total ≤ 2 ^ 64 - 1;
}
