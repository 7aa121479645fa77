use Rattle.std.proofs.Common.{◌≡◌, max, get_or, drop}
use Rattle.term_bank.specs.Node.{in_lists}
use Rattle.numbered_terms.specs.Measures.{most_over}
use Rattle.numbered_terms.proofs.measure.list_reaches.Given as goal

abbrev pub invariant-loop-list : goal.invariant-loop-list
invariant-loop-list l = max l.most (most_over (λ i. get_or l.reaches i 0) (in_lists (drop l.list-index l.lists))) ≡ most_over (λ i. get_or l.reaches i 0) (in_lists l.lists)
