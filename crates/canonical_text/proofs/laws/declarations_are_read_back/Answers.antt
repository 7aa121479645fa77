use Rattle.canonical_text.proofs.DeclarationReads.{declarations_back}
use Rattle.canonical_text.proofs.laws.declarations_are_read_back.Goals as goal

pub returns : goal.returns
returns c = λ d w e ls us z g. declarations_back d w e ls us z g
