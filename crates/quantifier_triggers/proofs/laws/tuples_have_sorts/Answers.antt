use Rattle.quantifier_triggers.proofs.TupleSorts.{tuples_sorted}
use Rattle.quantifier_triggers.proofs.laws.tuples_have_sorts.Goals as goal

pub returns : goal.returns
returns c = λ vars defs trigger sorts terms. tuples_sorted vars defs trigger sorts terms
