use Rattle.std.proofs.Common.{◌≡◌, drop}
use Rattle.bpl_ast.specs.ExprView.{groups_of}
use Rattle.bpl_scopes.specs.Fault.{earlier, first_fault}
use Rattle.bpl_faults.specs.ExprFaults.{group_clause_faults}
use Rattle.bpl_faults.specs.ScopeView.{scope_seen}
use Rattle.bpl_declaration_faults.proofs.declared.note_clauses.Given as goal

abbrev pub invariant-loop-group : goal.invariant-loop-group
invariant-loop-group l = earlier l.faults.first (first_fault (group_clause_faults (scope_seen l.scope) (groups_of (drop l.group-index l.groups)))) ≡ earlier l.fn.faults.first (first_fault (group_clause_faults (scope_seen l.scope) (groups_of l.groups)))
