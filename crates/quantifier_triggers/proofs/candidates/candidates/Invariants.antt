use Rattle.std.proofs.Common.{◌≡◌, ◌++◌, map, drop, filter}
use Rattle.quantifier_triggers.specs.Candidates.{is_candidate}
use Rattle.quantifier_triggers.proofs.candidates.candidates.Given as goal

abbrev pub invariant-loop-term : goal.invariant-loop-term
invariant-loop-term l = map (λ x. x.now) l.found.items ++ filter (is_candidate l.defs l.variables) (map (λ x. x.now) (drop l.term-index l.term-items)) ≡ filter (is_candidate l.defs l.variables) (map (λ x. x.now) l.term-items)
