use Rattle.std.proofs.Common.{take}
use Rattle.std.specs.List.{AllByRecursion}
use Rattle.numbered_theory.specs.Leads.{IsNoted}
use Rattle.numbered_theory.proofs.combining.note_each.Given as goal

abbrev pub invariant-loop-entry : goal.invariant-loop-entry
invariant-loop-entry l = AllByRecursion (IsNoted l.terms l.leads.above l.leads.below) (take l.entry-index l.entries)
