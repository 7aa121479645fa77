use Rattle.logic_laws.proofs.Assigned.{witness_exists}
use Rattle.logic_laws.proofs.binders.witnesses_exist.Goals as goal

pub returns : goal.returns
returns c = λ defs frees ss triggers body h none. witness_exists frees defs ss triggers body h none
