use Rattle.canonical_text.proofs.TextsTold.{texts_tell}
use Rattle.canonical_text.proofs.laws.texts_tell_declarations.Goals as goal

pub returns : goal.returns
returns c = λ own mine others theirs a b w v x y e. texts_tell own mine others theirs a b w v x y e
