use Rattle.logic_laws.proofs.Tightened.{tighten_sort}
use Rattle.logic_laws.proofs.normal.tightening_keeps_sorts.Goals as goal

pub returns : goal.returns
returns c = λ vars defs bound t s. tighten_sort vars defs t bound s
