use Rattle.bpl_sorts.proofs.SortReadings.{one_type}
use Rattle.bpl_sorts.proofs.laws.sorts_tell_types.Goals as goal

pub returns : goal.returns
returns c = one_type
