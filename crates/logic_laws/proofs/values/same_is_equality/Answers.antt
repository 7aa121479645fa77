use Rattle.logic_laws.proofs.SameValue.{same_equal, equal_same}
use Rattle.logic_laws.proofs.values.same_is_equality.Goals as goal

pub returns : goal.returns
returns c = λ v w. (same_equal v w, equal_same v w)
