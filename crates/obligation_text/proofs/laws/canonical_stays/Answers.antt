use Rattle.obligation_text.proofs.CanonicalStays.{canonical_stays}
use Rattle.obligation_text.proofs.laws.canonical_stays.Goals as goal

pub returns : goal.returns
returns c = canonical_stays
