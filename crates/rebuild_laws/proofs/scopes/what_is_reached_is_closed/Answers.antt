use Rattle.rebuild_laws.proofs.ReachClosed.{reached_closed, position_there}
use Rattle.rebuild_laws.proofs.scopes.what_is_reached_is_closed.Goals as goal

pub returns : goal.returns
returns c = λ m p d low leads. reached_closed m p d (position_there m d low) leads
