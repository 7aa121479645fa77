use Rattle.bpl_blocks.proofs.ExitLaws.{keeps_failures}
use Rattle.bpl_blocks.proofs.PlainKept.{with_failures}
use Rattle.bpl_blocks.proofs.laws.to_blocks_keeps_failures.Goals as goal

pub returns : goal.returns
returns c = λ m p typed there none. with_failures m p typed there (keeps_failures m p typed there none)
