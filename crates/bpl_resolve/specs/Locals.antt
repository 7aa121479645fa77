-- Parameters, locals and global variables, group by group.
use Rattle.std.specs.Prelude.{false, List, [], ◌++◌, map}
use Rattle.bpl_ast.specs.Place.{Name}
use Rattle.bpl_ast.specs.Tree.{Groups, no_groups, group}
use Rattle.bpl_model.specs.Module.{Global, Local}
use Rattle.bpl_scopes.specs.Scopes.{Text, Scope}
use Rattle.bpl_scopes.specs.Sorts.{sort_of_type}
use Rattle.bpl_terms.specs.Terms.{sort_or_int}
use Rattle.bpl_resolve.specs.Elaborate.{clause_term}

-- variables of one type, where some names are no types, with one clause
abbrev pub locals_in : Scope → List Text → Groups → List Local
locals_in s hidden no_groups = []
locals_in s hidden (group ns t c gs) = map (λ (n : Name). record { name = n.text; sort = sort_or_int (sort_of_type s.table hidden t); own = false; clause = clause_term s c }) ns ++ locals_in s hidden gs

abbrev pub globals_of : Scope → Groups → List Global
globals_of s no_groups = []
globals_of s (group ns t c gs) = map (λ (n : Name). record { name = n.text; sort = sort_or_int (sort_of_type s.table [] t); clause = clause_term s c }) ns ++ globals_of s gs
