use Rattle.logic_laws.proofs.NormalSorts.{normal_sort}
use Rattle.logic_laws.proofs.sorts.normal_keeps_sorts.Goals as goal

pub returns : goal.returns
returns c = λ vars defs bound t u k s e. normal_sort vars defs t u bound k e s
