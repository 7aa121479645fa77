use Rattle.std.proofs.Common.{◌≡◌, ◌++◌, drop}
use Rattle.bpl_ast.specs.ExprView.{each_groups_of}
use Rattle.bpl_declaration_faults.specs.Variables.{locals_of}
use Rattle.bpl_sorts.specs.DeclaredTypes.{types_named}
use Rattle.bpl_sorts.specs.TypesView.{tys_seen}
use Rattle.bpl_sorts.proofs.variable_types.push_each_groups.Given as goal

abbrev pub invariant-loop-declared : goal.invariant-loop-declared
invariant-loop-declared l = tys_seen l.types.items ++ types_named l.known (locals_of (each_groups_of (drop l.declared-index l.groups))) ≡ tys_seen l.fn.types.items ++ types_named l.known (locals_of (each_groups_of l.groups))
