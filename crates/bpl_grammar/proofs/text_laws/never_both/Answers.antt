use Rattle.bpl_grammar.proofs.Faults.{never_both}
use Rattle.bpl_grammar.proofs.text_laws.never_both.Goals as goal

pub returns : goal.returns
returns c = never_both
