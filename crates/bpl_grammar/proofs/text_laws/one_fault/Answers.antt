use Rattle.bpl_grammar.proofs.Faults.{one_fault}
use Rattle.bpl_grammar.proofs.text_laws.one_fault.Goals as goal

pub returns : goal.returns
returns c = one_fault
