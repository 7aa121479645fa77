use Rattle.vc_build.proofs.Composed.{without_gotos as law}
use Rattle.vc_build.proofs.laws.failures_have_goals_by_passes.Goals as goal

pub returns : goal.returns
returns c = law c.cut_keeps_failures.ensures
