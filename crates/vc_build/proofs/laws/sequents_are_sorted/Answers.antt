use Rattle.vc_build.proofs.SortedSequents.{sequents_sorted as law}
use Rattle.vc_build.proofs.laws.sequents_are_sorted.Goals as goal

pub returns : goal.returns
returns c = law c.cut_keeps_failures.ensures
