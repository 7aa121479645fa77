use Rattle.canonical_text.proofs.SameTexts.{one_text}
use Rattle.canonical_text.proofs.laws.same_programs_have_one_text.Goals as goal

pub returns : goal.returns
returns c = λ ds es h. one_text ds es h
