use Rattle.std.proofs.Common.{◌≡◌}
use Rattle.logic_laws.proofs.SameValue.{value_stable}
use Rattle.logic_laws.proofs.Assigned.{same_more}
use Rattle.logic_laws.proofs.variables.more_variables_keep_values.Goals as goal

pub returns : goal.returns
returns c = λ vars defs frees others bound b t k a s w. same_more vars defs frees a others t bound b k s (λ v. v ≡ w) (λ v. value_stable v w)
