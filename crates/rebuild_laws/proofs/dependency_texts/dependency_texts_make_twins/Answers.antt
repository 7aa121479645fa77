use Rattle.rebuild_laws.proofs.TextsOfProcedures.{dependency_texts_tell}
use Rattle.rebuild_laws.proofs.TwinsOfTexts.{twins_of_texts}
use Rattle.rebuild_laws.proofs.dependency_texts.dependency_texts_make_twins.Goals as goal

pub returns : goal.returns
returns c = λ ds es p q w v f g hp hq e. let r = dependency_texts_tell ds es p q w v f g hp hq e in twins_of_texts ds p es q r.0 r.1
