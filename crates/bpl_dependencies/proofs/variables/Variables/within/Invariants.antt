use Rattle.std.proofs.Common.{◌≡◌, ◌++◌, take}
use Rattle.bpl_ast.specs.ExprView.{groups_of}
use Rattle.bpl_scopes.specs.Scopes.{names_of, only_names, texts_of}
use Rattle.bpl_dependencies.specs.AppliedView.{texts_seen}
use Rattle.bpl_dependencies.proofs.variables.Variables.within.Given as goal

abbrev pub invariant-loop-name : goal.invariant-loop-name
invariant-loop-name l = texts_seen l.bound.items ≡ texts_of (only_names (names_of (groups_of l.groups))) ++ texts_seen (take l.name-index l.self.bound.items)
