use Rattle.bpl_grammar.proofs.Faults.{fine_is_faultless}
use Rattle.bpl_grammar.proofs.text_laws.fine_is_faultless.Goals as goal

pub returns : goal.returns
returns c = fine_is_faultless
