use Rattle.obligation_text.proofs.ObligationsRead.{keys_tell_apart}
use Rattle.obligation_text.proofs.laws.keys_tell_apart.Goals as goal

pub returns : goal.returns
returns c = keys_tell_apart
