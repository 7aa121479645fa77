use Rattle.std.proofs.Common.{ℕ, take}
use Rattle.std.specs.List.{AllByRecursion}
use Rattle.numbered_theory.specs.Leads.{side_entry, IsNoted}
use Rattle.numbered_theory.proofs.undecided.note_sides.Given as goal

abbrev pub invariant-loop-side : goal.invariant-loop-side
invariant-loop-side l = AllByRecursion (λ (s : ℕ). IsNoted l.terms l.leads.above l.leads.below (side_entry s)) (take l.side-index l.sides)
