use Rattle.rebuild_laws.proofs.Corresponding.{corresponding}
use Rattle.rebuild_laws.proofs.laws.corresponding_have_one_obligations.Goals as goal

pub returns : goal.returns
returns c = corresponding c.sequents_are_sorted.ensures
