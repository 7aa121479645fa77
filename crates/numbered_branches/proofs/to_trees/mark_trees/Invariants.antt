use Rattle.std.proofs.Common.{◌≡◌, map, take}
use Rattle.numbered_branches.specs.Branches.{mark_at}
use Rattle.numbered_branches.proofs.to_trees.mark_trees.Given as goal

abbrev pub invariant-loop-mark : goal.invariant-loop-mark
invariant-loop-mark l = l.all.items ≡ map (mark_at l.terms) (take l.mark-index l.marks)
