use Rattle.rebuild_laws.proofs.TextsOfProcedures.{dependency_texts_tell}
use Rattle.rebuild_laws.proofs.laws.dependency_texts_tell.Goals as goal

pub returns : goal.returns
returns c = dependency_texts_tell
