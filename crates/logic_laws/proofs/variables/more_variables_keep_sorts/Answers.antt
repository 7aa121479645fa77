use Rattle.std.proofs.Common.{◌++◌}
use Rattle.logic_laws.proofs.SortFrame.{within_more, within_itself, sort_over}
use Rattle.logic_laws.proofs.variables.more_variables_keep_sorts.Goals as goal

pub returns : goal.returns
returns c = λ vars more defs bound t k s. sort_over vars defs (vars ++ more) defs (within_more vars more) (within_itself defs) t bound bound (within_itself bound) k s
