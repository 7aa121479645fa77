use Rattle.bpl_grammar.proofs.Faults.{faultless_or_fault}
use Rattle.bpl_grammar.proofs.text_laws.faultless_or_fault.Goals as goal

pub returns : goal.returns
returns c = faultless_or_fault
