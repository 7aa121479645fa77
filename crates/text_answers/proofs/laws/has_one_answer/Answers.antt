use Rattle.text_answers.proofs.OneAnswer.{has_one}
use Rattle.text_answers.proofs.laws.has_one_answer.Goals as goal

pub returns : goal.returns
returns c = has_one c.opens_once.ensures c.one_answer.ensures
