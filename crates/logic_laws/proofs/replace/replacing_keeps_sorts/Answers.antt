use Rattle.logic_laws.proofs.ReplacedSorts.{replaced_sort}
use Rattle.logic_laws.proofs.replace.replacing_keeps_sorts.Goals as goal

pub returns : goal.returns
returns c = λ vars defs bound old new t j k so sn s. replaced_sort vars defs old new t bound j k so sn s
