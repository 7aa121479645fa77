use Rattle.logic_laws.proofs.Assigned.{one_value, same_normal}
use Rattle.logic_laws.proofs.normal.normal_keeps_values.Goals as goal

pub returns : goal.returns
returns c = λ vars defs frees bound b t u k a f s e. one_value frees defs t u b (same_normal vars defs frees a t u bound b k f s e)
