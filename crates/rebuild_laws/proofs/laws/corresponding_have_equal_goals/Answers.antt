use Rattle.rebuild_laws.proofs.WithoutGotos.{equal_goals}
use Rattle.rebuild_laws.proofs.laws.corresponding_have_equal_goals.Goals as goal

pub returns : goal.returns
returns c = equal_goals c.corresponding_have_one_obligations.ensures c.remove_gotos_stays_typed.ensures c.remove_gotos_keeps_failures.ensures
