use Rattle.edit_session.proofs.Served.{nothing_is_served}
use Rattle.edit_session.proofs.line_laws.nothing_is_served.Goals as goal

pub returns : goal.returns
returns c = nothing_is_served
