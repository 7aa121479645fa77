use Rattle.std.proofs.Common.{◌≡◌, max, get_or, drop}
use Rattle.numbered_terms.specs.Measures.{most_over}
use Rattle.numbered_terms.proofs.measure.reaches_of.Given as goal

abbrev pub invariant-loop-id : goal.invariant-loop-id
invariant-loop-id l = max l.most (most_over (λ i. get_or l.reaches i 0) (drop l.id-index l.ids)) ≡ most_over (λ i. get_or l.reaches i 0) (l.ids)
