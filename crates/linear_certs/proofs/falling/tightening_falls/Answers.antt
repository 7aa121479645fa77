use Rattle.linear_certs.proofs.TightFalls.{tightening_falls}
use Rattle.linear_certs.proofs.falling.tightening_falls.Goals as goal

pub returns : goal.returns
returns c = tightening_falls
