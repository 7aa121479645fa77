use Rattle.std.proofs.Common.{◌≡◌, ◌++◌, map, take, Some}
use Rattle.bpl_scopes.specs.Shape.{kind_seen}
use Rattle.bpl_scopes.specs.KnownSorts.{bounds_seen}
use Rattle.bpl_faults.proofs.scope.push_bounds.Given as goal

abbrev pub invariant-loop-name : goal.invariant-loop-name
invariant-loop-name l = bounds_seen l.bounds.items ≡ bounds_seen l.fn.bounds.items ++ map (λ n. record { name = Some n.text; sort = kind_seen l.sort }) (take l.name-index l.names)
