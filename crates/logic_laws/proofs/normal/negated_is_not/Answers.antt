use Rattle.logic_core.specs.Tree.{negation}
use Rattle.logic_laws.proofs.Assigned.{one_value, same_negated}
use Rattle.logic_laws.proofs.normal.negated_is_not.Goals as goal

pub returns : goal.returns
returns c = λ vars defs frees bound b t u a f s e. one_value frees defs (negation t) u b (same_negated vars defs frees a t u bound b f s e)
