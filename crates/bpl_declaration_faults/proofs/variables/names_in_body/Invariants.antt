use Rattle.std.proofs.Common.{◌≡◌, ◌++◌, drop}
use Rattle.bpl_scopes.specs.Scopes.{only_names}
use Rattle.bpl_ast.specs.ExprView.{each_groups_of}
use Rattle.bpl_faults.specs.Arguments.{names_seen}
use Rattle.bpl_declaration_faults.specs.Variables.{locals_of, names_in_body}
use Rattle.bpl_declaration_faults.proofs.variables.names_in_body.Given as goal

abbrev pub invariant-loop-groups : goal.invariant-loop-groups
invariant-loop-groups l = names_seen l.names.items ++ only_names (locals_of (each_groups_of (drop l.groups-index l.locals))) ≡ names_in_body l.signature (each_groups_of l.locals)
