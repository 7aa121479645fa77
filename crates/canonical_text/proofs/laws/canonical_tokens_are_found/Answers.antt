use Rattle.canonical_text.proofs.ProgramReads.{lexes}
use Rattle.canonical_text.proofs.laws.canonical_tokens_are_found.Goals as goal

pub returns : goal.returns
returns c = λ ds w. lexes ds w
