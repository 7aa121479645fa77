use Rattle.std.proofs.Common.{◌≡◌, ◌++◌, ◌+◌, drop, length}
use Rattle.bpl_ast.specs.ExprView.{groups_of}
use Rattle.bpl_scopes.specs.Scopes.{names_of}
use Rattle.bpl_scopes.specs.KnownSorts.{hidden_seen}
use Rattle.bpl_declaration_faults.specs.Variables.{vars_from}
use Rattle.bpl_declaration_faults.proofs.variables.push_group_vars.Given as goal

abbrev pub invariant-loop-group : goal.invariant-loop-group
invariant-loop-group l = record {
  vars : l.vars ++ vars_from l.types (hidden_seen l.hidden) l.role l.number (names_of (groups_of (drop l.group-index l.groups))) ≡ l.fn.vars ++ vars_from l.types (hidden_seen l.hidden) l.role l.from (names_of (groups_of l.groups));
  counted : l.number + length (names_of (groups_of (drop l.group-index l.groups))) ≡ l.from + length (names_of (groups_of l.groups));
}
