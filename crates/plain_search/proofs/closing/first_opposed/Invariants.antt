use Rattle.std.proofs.Common.{◌≡◌, drop, find}
use Rattle.logic_rules.specs.Closing.{are_opposed}
use Rattle.plain_search.proofs.closing.first_opposed.Given as goal

abbrev pub invariant-loop-other : goal.invariant-loop-other
invariant-loop-other l = find (λ f. are_opposed f l.fact) (drop l.other-index l.facts) ≡ find (λ f. are_opposed f l.fact) l.facts
