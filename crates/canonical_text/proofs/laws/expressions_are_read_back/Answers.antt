use Rattle.canonical_text.proofs.ExpressionReads.{expressions_back}
use Rattle.canonical_text.proofs.laws.expressions_are_read_back.Goals as goal

pub returns : goal.returns
returns c = λ x h room d ls us k g. expressions_back x h room d ls us k g
