use Rattle.std.proofs.Common.{◌≡◌, ◌++◌, drop}
use Rattle.bpl_ast.specs.ExprView.{groups_of}
use Rattle.bpl_scopes.specs.Scopes.{names_of}
use Rattle.bpl_sorts.specs.DeclaredTypes.{types_named}
use Rattle.bpl_sorts.specs.TypesView.{tys_seen}
use Rattle.bpl_sorts.proofs.variable_types.push_group_types.Given as goal

abbrev pub invariant-loop-group : goal.invariant-loop-group
invariant-loop-group l = tys_seen l.types.items ++ types_named l.known (names_of (groups_of (drop l.group-index l.groups))) ≡ tys_seen l.fn.types.items ++ types_named l.known (names_of (groups_of l.groups))
