use Rattle.canonical_text.proofs.OnlyDeep.{same_or_deep}
use Rattle.canonical_text.proofs.laws.canonical_text_spells_the_same_or_is_deep.Goals as goal

pub returns : goal.returns
returns c = λ bytes ds s. same_or_deep bytes ds s
