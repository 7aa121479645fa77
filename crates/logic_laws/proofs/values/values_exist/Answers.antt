use Rattle.logic_laws.proofs.Assigned.{value_exists}
use Rattle.logic_laws.proofs.values.values_exist.Goals as goal

pub returns : goal.returns
returns c = λ frees defs t b none. value_exists frees defs t b none
