use Rattle.body_revision.proofs.ReadBodies.{readings_keep}
use Rattle.body_revision.proofs.laws.readings_keep_bodies.Goals as goal

pub returns : goal.returns
returns c = readings_keep
