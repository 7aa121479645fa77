use Rattle.std.proofs.Common.{◌≡◌, ◌++◌, drop, flat_map}
use Rattle.bpl_ast.specs.Tree.{Groups}
use Rattle.bpl_ast.specs.ExprView.{each_groups_of}
use Rattle.bpl_scopes.specs.declared.part.Part.TheVariants.{ClauseOfLocal as in_clause_of_local}
use Rattle.bpl_scopes.specs.CountsView.{counts_seen}
use Rattle.bpl_scopes.specs.Fault.{earlier, first_fault}
use Rattle.bpl_scopes.specs.TypeFaults.{group_type_faults}
use Rattle.bpl_faults.specs.ExprFaults.{group_clause_faults}
use Rattle.bpl_declaration_faults.specs.Variables.{scope_of}
use Rattle.bpl_declaration_faults.proofs.declared.Declared.note_locals.Given as goal

abbrev pub invariant-loop-groups : goal.invariant-loop-groups
invariant-loop-groups l = earlier l.faults.first (first_fault (flat_map (λ (gs : Groups). group_type_faults l.self.environment.now l.names gs ++ group_clause_faults (scope_of l.self.environment.now (counts_seen l.self.counts) in_clause_of_local l.vars) gs) (each_groups_of (drop l.groups-index l.locals)))) ≡ earlier l.fn.faults.first (first_fault (flat_map (λ (gs : Groups). group_type_faults l.self.environment.now l.names gs ++ group_clause_faults (scope_of l.self.environment.now (counts_seen l.self.counts) in_clause_of_local l.vars) gs) (each_groups_of l.locals)))
