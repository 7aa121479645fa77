use Rattle.std.proofs.Common.{rules}
use Rattle.quantifier_triggers.specs.Candidates.{bound_numbers, covers}
use Rattle.quantifier_triggers.proofs.Choosing.{least_step}
use Rattle.quantifier_triggers.proofs.choice.least_covering.Goals as goal

pub loop-candidate-preserved : goal.loop-candidate-preserved
loop-candidate-preserved c =
    least_step (λ x. x.now) c.args.candidates.now c.loop-candidate.candidate-index c.candidate-item.result (search rules) (search rules) (λ t. covers c.args.variables (bound_numbers t)) _ _ c.loop-candidate.invariant _ c.in_ok-found.ensures
