use Rattle.std.proofs.Common.{take}
use Rattle.numbered_terms.specs.Stored.{Grows}
use Rattle.numbered_branches.specs.Standing.{AreMarksAt}
use Rattle.numbered_branches.proofs.to_numbers.mark_numbers.Given as goal

abbrev pub invariant-loop-mark : goal.invariant-loop-mark
invariant-loop-mark l = record { grows : Grows l.fn.store l.store; done : AreMarksAt l.store.terms l.all.items (take l.mark-index l.marks) }
