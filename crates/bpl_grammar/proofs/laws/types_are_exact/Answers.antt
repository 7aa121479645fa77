use Rattle.bpl_grammar.proofs.TypeLaws.{type_fate}
use Rattle.bpl_grammar.proofs.laws.types_are_exact.Goals as goal

pub returns : goal.returns
returns c = λ room n e k ls. type_fate room n e k ls
