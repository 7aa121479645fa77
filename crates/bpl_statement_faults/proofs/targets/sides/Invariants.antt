use Rattle.std.proofs.Common.{◌≡◌, drop, take, flat_map}
use Rattle.bpl_scopes.specs.Fault.{earlier, first_fault}
use Rattle.bpl_scopes.specs.KnownSorts.{shapes_seen}
use Rattle.bpl_faults.specs.ScopeView.{scope_seen}
use Rattle.bpl_statement_faults.specs.StmtFaults.{sides_sorts, indices_faults}
use Rattle.bpl_statement_faults.proofs.targets.sides.Given as goal

abbrev pub invariant-loop-target : goal.invariant-loop-target
invariant-loop-target l = record {
  found : earlier l.faults.first (first_fault (flat_map (indices_faults (scope_seen l.scope)) (drop l.target-index l.targets))) ≡ earlier l.fn.faults.first (first_fault (flat_map (indices_faults (scope_seen l.scope)) l.targets));
  sorts : shapes_seen l.sorts.items ≡ sides_sorts (scope_seen l.scope) (take l.target-index l.targets);
}
