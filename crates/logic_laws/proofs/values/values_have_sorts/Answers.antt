use Rattle.logic_laws.proofs.Assigned.{sorted_value}
use Rattle.logic_laws.proofs.values.values_have_sorts.Goals as goal

pub returns : goal.returns
returns c = λ vars defs frees bound b t k a f s. sorted_value vars defs frees a t bound b k f s
