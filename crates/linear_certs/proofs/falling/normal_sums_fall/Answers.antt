use Rattle.linear_certs.proofs.NormalFalls.{normal_sums_fall}
use Rattle.linear_certs.proofs.falling.normal_sums_fall.Goals as goal

pub returns : goal.returns
returns c = normal_sums_fall
