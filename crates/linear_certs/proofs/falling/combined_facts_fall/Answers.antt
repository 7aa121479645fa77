use Rattle.linear_certs.proofs.CombinedFalls.{combined_facts_fall}
use Rattle.linear_certs.proofs.falling.combined_facts_fall.Goals as goal

pub returns : goal.returns
returns c = combined_facts_fall
