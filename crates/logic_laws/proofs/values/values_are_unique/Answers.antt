use Rattle.logic_laws.proofs.Assigned.{value_unique}
use Rattle.logic_laws.proofs.values.values_are_unique.Goals as goal

pub returns : goal.returns
returns c = λ frees defs t b v w h g. value_unique frees defs t b v w h g
