use Rattle.bpl_grammar.proofs.Faults.{fails_at_the_fault}
use Rattle.bpl_grammar.proofs.text_laws.fails_at_the_fault.Goals as goal

pub returns : goal.returns
returns c = fails_at_the_fault
