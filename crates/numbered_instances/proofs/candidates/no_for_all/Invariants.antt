use Rattle.std.proofs.Common.{◌≡◌, drop}
use Rattle.std.specs.List.{list_any}
use Rattle.term_bank.specs.Numbered.{at}
use Rattle.numbered_branches.specs.Branches.{NumberedFact}
use Rattle.numbered_instances.specs.Instances.{is_for_all}
use Rattle.numbered_instances.proofs.candidates.no_for_all.Given as goal

abbrev pub invariant-loop-fact : goal.invariant-loop-fact
invariant-loop-fact l = list_any (λ (f : NumberedFact). is_for_all (at l.terms f.term)) (drop l.fact-index l.facts) ≡ list_any (λ (f : NumberedFact). is_for_all (at l.terms f.term)) l.facts
