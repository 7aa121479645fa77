use Rattle.std.proofs.Common.{[]}
use Rattle.logic_core.specs.Subterm.{replaced}
use Rattle.logic_laws.proofs.Assigned.{one_value, same_from_one_value, same_with_replaced}
use Rattle.logic_laws.proofs.replace.replacing_keeps_values.Goals as goal

pub returns : goal.returns
returns c = λ vars defs frees b old new t j a so sn e. one_value frees defs t (replaced old new t) b (same_with_replaced vars defs frees a old new t b j so sn (same_from_one_value frees defs old new [] e))
