use Rattle.vc_build.proofs.ProvedGoals.{proved_are_valid}
use Rattle.vc_build.proofs.proved_goals.proved_goals_are_valid.Goals as goal

pub returns : goal.returns
returns c = proved_are_valid c.acceptance_is_sound.ensures c.goals_are_sorted.ensures
