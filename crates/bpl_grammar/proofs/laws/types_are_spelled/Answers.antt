use Rattle.bpl_grammar.proofs.TypeTrees.{type_ok}
use Rattle.bpl_grammar.proofs.laws.types_are_spelled.Goals as goal

pub returns : goal.returns
returns c = λ room ls x us h. type_ok room ls x us h
