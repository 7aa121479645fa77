use Rattle.body_revision.proofs.StillNew.{go_together}
use Rattle.body_revision.proofs.laws.revisions_go_together.Goals as goal

pub returns : goal.returns
returns c = go_together
