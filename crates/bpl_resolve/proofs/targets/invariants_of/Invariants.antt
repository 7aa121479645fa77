use Rattle.std.proofs.Common.{◌≡◌, take}
use Rattle.bpl_faults.specs.ScopeView.{scope_seen}
use Rattle.bpl_resolve.specs.Elaborate.{invariants_of}
use Rattle.bpl_resolve.proofs.targets.invariants_of.Given as goal

abbrev pub invariant-loop-invariant : goal.invariant-loop-invariant
invariant-loop-invariant l = l.found.items ≡ invariants_of (scope_seen l.scope) (take l.invariant-index l.invariants)
