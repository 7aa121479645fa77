use Rattle.logic_laws.proofs.Assigned.{instance_holds}
use Rattle.logic_laws.proofs.binders.instances_hold.Goals as goal

pub returns : goal.returns
returns c = λ vars defs frees ss triggers body terms a s f h. instance_holds vars defs frees a ss triggers body terms s f h
