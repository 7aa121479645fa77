use Rattle.bpl_grammar.proofs.ProgramsUnique.{programs_are_unique}
use Rattle.bpl_grammar.proofs.text_laws.programs_are_unique.Goals as goal

pub returns : goal.returns
returns c = programs_are_unique
