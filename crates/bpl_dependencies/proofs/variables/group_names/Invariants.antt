use Rattle.std.proofs.Common.{◌≡◌, ◌++◌, drop}
use Rattle.bpl_ast.specs.ExprView.{groups_of}
use Rattle.bpl_scopes.specs.Scopes.{names_of, only_names, texts_of}
use Rattle.bpl_dependencies.specs.AppliedView.{texts_seen}
use Rattle.bpl_dependencies.proofs.variables.group_names.Given as goal

abbrev pub invariant-loop-group : goal.invariant-loop-group
invariant-loop-group l = texts_seen l.names.items ++ texts_of (only_names (names_of (groups_of (drop l.group-index l.groups)))) ≡ texts_of (only_names (names_of (groups_of l.groups)))
