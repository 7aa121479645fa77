use Rattle.std.proofs.Common.{◌≡◌, map, drop, filter}
use Rattle.std.specs.Option.{option_map}
use Rattle.quantifier_triggers.specs.Candidates.{bound_numbers, covers}
use Rattle.quantifier_triggers.specs.Choice.{least}
use Rattle.quantifier_triggers.proofs.Once.{least_from}
use Rattle.quantifier_triggers.proofs.choice.least_covering.Given as goal

abbrev pub invariant-loop-candidate : goal.invariant-loop-candidate
invariant-loop-candidate l =
    least_from (option_map (λ x. x.now) l.found) (filter (λ t. covers l.variables (bound_numbers t)) (map (λ x. x.now) (drop l.candidate-index l.candidates)))
    ≡ least (filter (λ t. covers l.variables (bound_numbers t)) (map (λ x. x.now) l.candidates))
