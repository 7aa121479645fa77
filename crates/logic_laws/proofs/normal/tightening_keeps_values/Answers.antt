use Rattle.logic_core.specs.Tighten.{tighten}
use Rattle.logic_laws.proofs.Assigned.{one_value, same_tightened}
use Rattle.logic_laws.proofs.normal.tightening_keeps_values.Goals as goal

pub returns : goal.returns
returns c = λ vars defs frees bound b t a f s. one_value frees defs t (tighten t) b (same_tightened vars defs frees a t bound b f s)
