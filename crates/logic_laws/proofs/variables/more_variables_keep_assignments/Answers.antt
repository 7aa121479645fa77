use Rattle.logic_laws.proofs.Assigned.{assignment_more}
use Rattle.logic_laws.proofs.variables.more_variables_keep_assignments.Goals as goal

pub returns : goal.returns
returns c = λ vars more defs frees others a f. assignment_more vars defs frees a more others f
