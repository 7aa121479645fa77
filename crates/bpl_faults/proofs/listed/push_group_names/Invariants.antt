use Rattle.std.proofs.Common.{◌≡◌, ◌++◌, drop}
use Rattle.bpl_ast.specs.ExprView.{groups_of}
use Rattle.bpl_scopes.specs.Scopes.{names_of, only_names}
use Rattle.bpl_faults.specs.Arguments.{names_seen}
use Rattle.bpl_faults.proofs.listed.push_group_names.Given as goal

abbrev pub invariant-loop-group : goal.invariant-loop-group
invariant-loop-group l = names_seen l.found.items ++ only_names (names_of (groups_of (drop l.group-index l.groups))) ≡ names_seen l.fn.found.items ++ only_names (names_of (groups_of l.groups))
