use Rattle.std.proofs.Common.{◌≡◌, ◌++◌, drop}
use Rattle.bpl_scopes.specs.declared.part.Role.TheVariants.{Local as local_variable}
use Rattle.bpl_ast.specs.ExprView.{each_groups_of}
use Rattle.bpl_scopes.specs.KnownSorts.{hidden_seen}
use Rattle.bpl_declaration_faults.specs.Variables.{vars_from, locals_of}
use Rattle.bpl_declaration_faults.proofs.variables.push_locals.Given as goal

abbrev pub invariant-loop-groups : goal.invariant-loop-groups
invariant-loop-groups l = l.vars ++ vars_from l.types (hidden_seen l.hidden) local_variable l.number (locals_of (each_groups_of (drop l.groups-index l.locals))) ≡ l.fn.vars ++ vars_from l.types (hidden_seen l.hidden) local_variable l.from (locals_of (each_groups_of l.locals))
