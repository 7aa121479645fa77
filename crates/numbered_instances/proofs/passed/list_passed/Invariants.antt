use Rattle.std.proofs.Common.{map, take}
use Rattle.term_bank.specs.Numbered.{at}
use Rattle.numbered_branches.specs.Branches.{mark_at}
use Rattle.numbered_instances.specs.Instances.{is_new}
use Rattle.numbered_instances.specs.Passed.{Tells}
use Rattle.numbered_instances.proofs.passed.list_passed.Given as goal

abbrev pub invariant-loop-mark : goal.invariant-loop-mark
invariant-loop-mark l = Tells l.terms l.passed (is_new (map (mark_at l.terms) (take l.mark-index l.marks)) (at l.terms l.fact))
