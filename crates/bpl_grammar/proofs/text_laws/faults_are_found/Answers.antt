use Rattle.bpl_grammar.proofs.TextsUnique.{faults_are_found}
use Rattle.bpl_grammar.proofs.text_laws.faults_are_found.Goals as goal

pub returns : goal.returns
returns c = faults_are_found
