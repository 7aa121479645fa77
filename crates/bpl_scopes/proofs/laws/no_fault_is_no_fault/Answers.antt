use Rattle.bpl_scopes.proofs.IsFirst.{no_first-no_fault}
use Rattle.bpl_scopes.proofs.laws.no_fault_is_no_fault.Goals as goal

pub returns : goal.returns
returns c = no_first-no_fault
