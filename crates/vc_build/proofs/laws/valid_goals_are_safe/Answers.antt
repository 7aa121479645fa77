use Rattle.vc_build.proofs.Composed.{valid_goals_are_safe as law}
use Rattle.vc_build.proofs.laws.valid_goals_are_safe.Goals as goal

pub returns : goal.returns
returns c = law c.failures_have_goals.ensures
