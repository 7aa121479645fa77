use Rattle.std.proofs.Common.{◌≡◌, drop}
use Rattle.bpl_ast.specs.ExprView.{groups_of}
use Rattle.bpl_scopes.specs.Fault.{earlier, first_fault}
use Rattle.bpl_scopes.specs.TypeFaults.{group_where_faults}
use Rattle.bpl_scopes.proofs.fault.Faults.note_each_where.Given as goal

abbrev pub invariant-loop-group : goal.invariant-loop-group
invariant-loop-group l = earlier l.self.first (first_fault (group_where_faults (groups_of (drop l.group-index l.groups)))) ≡ earlier l.fn.self.first (first_fault (group_where_faults (groups_of l.groups)))
