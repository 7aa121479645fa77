use Rattle.canonical_text.proofs.ExpressionReads.{types_back}
use Rattle.canonical_text.proofs.laws.types_are_read_back.Goals as goal

pub returns : goal.returns
returns c = λ t h room d ls us g. types_back t h room d ls us g
