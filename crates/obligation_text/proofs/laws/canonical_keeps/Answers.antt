use Rattle.obligation_text.proofs.CanonicalSorted.{canonical_keeps}
use Rattle.obligation_text.proofs.laws.canonical_keeps.Goals as goal

pub returns : goal.returns
returns c = canonical_keeps
