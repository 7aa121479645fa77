use Rattle.logic_laws.proofs.FormulaSorts.{negated_sort}
use Rattle.logic_laws.proofs.sorts.negated_keeps_sorts.Goals as goal

pub returns : goal.returns
returns c = λ vars defs bound t u s e. negated_sort vars defs t u bound s e
