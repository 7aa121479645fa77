use Rattle.std.proofs.Common.{◌≡◌, take}
use Rattle.bpl_faults.specs.ScopeView.{scope_seen}
use Rattle.bpl_resolve.specs.Elaborate.{target_numbers}
use Rattle.bpl_resolve.proofs.targets.target_numbers.Given as goal

abbrev pub invariant-loop-name : goal.invariant-loop-name
invariant-loop-name l = l.numbers.items ≡ target_numbers (scope_seen l.scope) (take l.name-index l.names)
