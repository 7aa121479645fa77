use Rattle.vc_build.proofs.Composed.{failures_have_goals as law}
use Rattle.vc_build.proofs.laws.failures_have_goals.Goals as goal

pub returns : goal.returns
returns c = law c.failures_have_goals_by_passes.ensures
