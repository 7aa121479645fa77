use Rattle.std.proofs.Common.{◌≡◌, drop}
use Rattle.bpl_scopes.specs.Scopes.{Meaning, bound_meaning}
use Rattle.bpl_scopes.specs.KnownSorts.{bounds_seen}
use Rattle.bpl_faults.proofs.scope.find_bound.Given as goal

abbrev pub invariant-loop-i : goal.invariant-loop-i
invariant-loop-i l = (m : Meaning) → bound_meaning l.i (bounds_seen (drop l.i l.bounds)) l.name m ≡ bound_meaning 0 (bounds_seen l.bounds) l.name m
