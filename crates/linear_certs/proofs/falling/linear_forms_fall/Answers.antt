use Rattle.linear_certs.proofs.NormalFalls.{linear_forms_fall}
use Rattle.linear_certs.proofs.falling.linear_forms_fall.Goals as goal

pub returns : goal.returns
returns c = linear_forms_fall
