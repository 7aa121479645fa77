use Rattle.std.proofs.Common.{◌≡◌, ◌++◌, drop, flat_map}
use Rattle.bpl_ast.specs.ExprView.{each_groups_of}
use Rattle.bpl_scopes.specs.Scopes.{names_of, only_names, texts_of}
use Rattle.bpl_texts.proofs.uses.push_locals.Given as goal

abbrev pub invariant-loop-groups : goal.invariant-loop-groups
invariant-loop-groups l = l.texts ++ texts_of (only_names (flat_map names_of (each_groups_of (drop l.groups-index l.locals)))) ≡ l.fn.texts ++ texts_of (only_names (flat_map names_of (each_groups_of l.locals)))
