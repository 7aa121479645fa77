use Rattle.bpl_grammar.proofs.ProgramFaults.{programs_are_exact}
use Rattle.bpl_grammar.proofs.text_laws.programs_are_exact.Goals as goal

pub returns : goal.returns
returns c = programs_are_exact
