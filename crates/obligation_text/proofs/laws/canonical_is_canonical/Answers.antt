use Rattle.obligation_text.proofs.CanonicalNumbers.{canonical_is_canonical}
use Rattle.obligation_text.proofs.laws.canonical_is_canonical.Goals as goal

pub returns : goal.returns
returns c = canonical_is_canonical
