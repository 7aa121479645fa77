use Rattle.numbered_theory.proofs.TriedPairs.{nothing_tried}
use Rattle.numbered_theory.proofs.tried.Tried.new.Goals as goal

pub returns : goal.returns
returns c = λ ts. nothing_tried ts c.new.result c.new.ensures.items
