use Rattle.std.proofs.Common.{◌≡◌, map, take}
use Rattle.term_bank.specs.Numbered.{at}
use Rattle.numbered_branches.proofs.step.trees.Given as goal

abbrev pub invariant-loop-id : goal.invariant-loop-id
invariant-loop-id l = l.all.items ≡ map (at l.terms) (take l.id-index l.ids)
