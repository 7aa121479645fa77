use Rattle.std.proofs.Common.{take}
use Rattle.numbered_theory.specs.Leads.{AreSidesLed}
use Rattle.numbered_theory.proofs.undecided.side_atoms.Given as goal

abbrev pub invariant-loop-side : goal.invariant-loop-side
invariant-loop-side l = AreSidesLed l.terms (take l.side-index l.sides) l.atoms.items
