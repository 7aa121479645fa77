use Rattle.std.proofs.Common.{◌≡◌, ◌++◌, drop}
use Rattle.bpl_ast.specs.ExprView.{groups_of}
use Rattle.bpl_scopes.specs.Scopes.{names_of, only_names, texts_of}
use Rattle.bpl_texts.proofs.uses.push_group_texts.Given as goal

abbrev pub invariant-loop-group : goal.invariant-loop-group
invariant-loop-group l = l.texts ++ texts_of (only_names (names_of (groups_of (drop l.group-index l.groups)))) ≡ l.fn.texts ++ texts_of (only_names (names_of (groups_of l.groups)))
