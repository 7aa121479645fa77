use Rattle.std.proofs.Common.{◌≡◌, ◌++◌, map, drop, filter_map}
use Rattle.quantifier_triggers.specs.Candidates.{bound_number}
use Rattle.quantifier_triggers.proofs.candidates.numbers_among.Given as goal

abbrev pub invariant-loop-term : goal.invariant-loop-term
invariant-loop-term l = l.numbers.items ++ filter_map bound_number (map (λ x. x.now) (drop l.term-index l.terms)) ≡ filter_map bound_number (map (λ x. x.now) l.terms)
