use Rattle.std.proofs.Common.{◌≡◌, drop}
use Rattle.bpl_ast.specs.ExprView.{groups_of}
use Rattle.bpl_scopes.specs.Fault.{earlier, first_fault}
use Rattle.bpl_scopes.specs.KnownSorts.{hidden_seen}
use Rattle.bpl_scopes.specs.TypeFaults.{group_type_faults}
use Rattle.bpl_scopes.proofs.types.Types.note_group_types.Given as goal

abbrev pub invariant-loop-group : goal.invariant-loop-group
invariant-loop-group l = earlier l.faults.first (first_fault (group_type_faults l.self (hidden_seen l.hidden) (groups_of (drop l.group-index l.groups)))) ≡ earlier l.fn.faults.first (first_fault (group_type_faults l.self (hidden_seen l.hidden) (groups_of l.groups)))
