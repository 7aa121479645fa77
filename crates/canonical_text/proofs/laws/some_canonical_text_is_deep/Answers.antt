use Rattle.canonical_text.proofs.Deeper.{some_deep}
use Rattle.canonical_text.proofs.laws.some_canonical_text_is_deep.Goals as goal

pub returns : goal.returns
returns c = some_deep
