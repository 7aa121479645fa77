use Rattle.std.proofs.Common.{◌≡◌, ◌++◌, drop}
use Rattle.bpl_ast.specs.ExprView.{each_groups_of}
use Rattle.bpl_dependencies.specs.AppliedView.{texts_seen, variables_seen}
use Rattle.bpl_texts.specs.Uses.{locals_uses}
use Rattle.bpl_texts.proofs.expr_uses.Uses.note_locals.Given as goal

abbrev pub invariant-loop-groups : goal.invariant-loop-groups
invariant-loop-groups l = texts_seen l.self.names.items ++ locals_uses (variables_seen l.variables) (each_groups_of (drop l.groups-index l.locals)) ≡ texts_seen l.fn.self.names.items ++ locals_uses (variables_seen l.variables) (each_groups_of l.locals)
