use Rattle.linear_certs.proofs.FallingSums.{sums_fall}
use Rattle.linear_certs.proofs.falling.sums_fall.Goals as goal

pub returns : goal.returns
returns c = sums_fall
