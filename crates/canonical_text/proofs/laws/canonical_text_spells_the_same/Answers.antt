use Rattle.canonical_text.proofs.RoundTrips.{round_trip}
use Rattle.canonical_text.proofs.laws.canonical_text_spells_the_same.Goals as goal

pub returns : goal.returns
returns c = λ bytes ds s w. round_trip bytes ds s w
