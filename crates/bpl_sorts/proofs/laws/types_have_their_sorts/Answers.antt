use Rattle.bpl_sorts.proofs.ReadTypes.{types_fit}
use Rattle.bpl_sorts.proofs.laws.types_have_their_sorts.Goals as goal

pub returns : goal.returns
returns c = types_fit
