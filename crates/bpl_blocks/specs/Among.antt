-- The clauses of globals by the names of all declarations, and of those that are reached.
use Rattle.std.specs.Prelude.{Bool, cond, List, [], ◌∷◌, ◌++◌, bytes_eq, option_to_list}
use Rattle.std.specs.List.{list_any}
use Rattle.logic_core.specs.Tree.{Tree}
use Rattle.bpl_model.specs.Module.{Name, Global}

abbrev pub now_reached : List Name → List Name → Bool → Name → Bool
now_reached declared reached before n = cond (list_any (bytes_eq n) declared) (list_any (bytes_eq n) reached) before

abbrev pub clauses_among : List Name → List Name → Bool → List Global → List Tree
clauses_among declared reached before [] = []
clauses_among declared reached before (g ∷ gs) =
    let now = now_reached declared reached before g.name in
    cond now (option_to_list g.clause) [] ++ clauses_among declared reached now gs
