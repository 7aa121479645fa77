use Rattle.edit_server.proofs.Generating.{has_one_of_generated}
use Rattle.edit_server.proofs.laws.has_one_summary.Goals as goal

pub returns : goal.returns
returns c = has_one_of_generated c.opens_once.ensures
