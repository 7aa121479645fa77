use Rattle.obligation_text.proofs.ObligationsRead.{texts_tell_apart}
use Rattle.obligation_text.proofs.laws.texts_tell_apart.Goals as goal

pub returns : goal.returns
returns c = texts_tell_apart
