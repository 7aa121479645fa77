use Rattle.std.proofs.Common.{◌≡◌, map, drop}
use Rattle.std.specs.List.{list_all}
use Rattle.quantifier_triggers.specs.Candidates.{is_simple}
use Rattle.quantifier_triggers.proofs.candidates.are_simple.Given as goal

abbrev pub invariant-loop-term : goal.invariant-loop-term
invariant-loop-term l = list_all is_simple (map (λ x. x.now) (drop l.term-index l.terms)) ≡ list_all is_simple (map (λ x. x.now) l.terms)
