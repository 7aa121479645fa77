use Rattle.std.proofs.Common.{take}
use Rattle.numbered_terms.specs.Stored.{Grows}
use Rattle.numbered_branches.specs.Standing.{AreMadeAt}
use Rattle.numbered_branches.proofs.moves_to_numbers.made_numbers.Given as goal

abbrev pub invariant-loop-one : goal.invariant-loop-one
invariant-loop-one l = record { grows : Grows l.fn.store l.store; done : AreMadeAt l.store.terms l.all.items (take l.one-index l.made) }
