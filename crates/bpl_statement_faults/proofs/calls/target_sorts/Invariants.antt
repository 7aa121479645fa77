use Rattle.std.proofs.Common.{◌≡◌, map, take}
use Rattle.bpl_scopes.specs.KnownSorts.{shapes_seen}
use Rattle.bpl_faults.specs.ScopeView.{scope_seen}
use Rattle.bpl_statement_faults.specs.StmtFaults.{target_sort}
use Rattle.bpl_statement_faults.proofs.calls.target_sorts.Given as goal

abbrev pub invariant-loop-name : goal.invariant-loop-name
invariant-loop-name l = shapes_seen l.sorts.items ≡ map (target_sort (scope_seen l.scope)) (take l.name-index l.names)
