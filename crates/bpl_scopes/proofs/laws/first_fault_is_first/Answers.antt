use Rattle.bpl_scopes.proofs.IsFirst.{first_fault-is-first}
use Rattle.bpl_scopes.proofs.laws.first_fault_is_first.Goals as goal

pub returns : goal.returns
returns c = first_fault-is-first
