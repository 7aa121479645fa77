use Rattle.std.proofs.Common.{◌∙◌}
use Rattle.block_wp.proofs.Sequents.{are_equations}
use Rattle.block_wp.proofs.goal.equations.Goals as goal

pub returns : goal.returns
returns c = (λ j. record { defs = c.in_ok-all.ensures j; goal = c.goal-goal.ensures j }) ∙ are_equations c.args.passive.now c.args.defs.now c.args.block c.args.at c.in_ok-reached.reached c.in_ok-reached.ensures
