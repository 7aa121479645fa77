use Rattle.rebuild_laws.proofs.EqualTexts.{equal_obligations}
use Rattle.rebuild_laws.proofs.dependency_texts.equal_dependency_texts_have_equal_obligations.Goals as goal

pub returns : goal.returns
returns c = equal_obligations c.corresponding_have_equal_goals.ensures c.faultless_modules_are_typed.ensures c.faultless_gotos_go_forward.ensures
