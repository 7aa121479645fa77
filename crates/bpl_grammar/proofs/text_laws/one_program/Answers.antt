use Rattle.bpl_grammar.proofs.TextsUnique.{one_program}
use Rattle.bpl_grammar.proofs.text_laws.one_program.Goals as goal

pub returns : goal.returns
returns c = one_program
