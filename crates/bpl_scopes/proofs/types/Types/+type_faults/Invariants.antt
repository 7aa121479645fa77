use Rattle.std.proofs.Common.{◌≡◌, ◌+◌, ◌*◌, ◌≤◌, drop}
use Rattle.bpl_ast.specs.Nodes.{ty_nodes, tys_nodes}
use Rattle.bpl_ast.specs.TypeView.{tys_of}
use Rattle.bpl_scopes.specs.Fault.{earlier, first_fault}
use Rattle.bpl_scopes.specs.KnownSorts.{hidden_seen}
use Rattle.bpl_scopes.specs.TypeFaults.{types_faults}
use Rattle.bpl_scopes.proofs.types.Types.+type_faults.Given as goal

abbrev pub decreases-note_type : goal.decreases-note_type
decreases-note_type l = 2 * ty_nodes l.of.now

abbrev pub decreases-note_types : goal.decreases-note_types
decreases-note_types l = 2 * tys_nodes (tys_of l.types.now) + 1

abbrev pub invariant-note_types-loop-of : goal.invariant-note_types-loop-of
invariant-note_types-loop-of l = record {
  found : earlier l.faults.first (first_fault (types_faults l.self (hidden_seen l.hidden) (tys_of (drop l.of-index l.types)))) ≡ earlier l.fn.faults.first (first_fault (types_faults l.self (hidden_seen l.hidden) (tys_of l.types)));
  less : tys_nodes (tys_of (drop l.of-index l.types)) ≤ tys_nodes (tys_of l.types);
}
