-- Graphs without loops stay as they are when loops are cut: of a procedure that calls another, of one that calls one twice, of one with an early return, and of one whose variables have clauses.
use Rattle.std.specs.Prelude.{◌≡◌, refl, [], ◌∷◌}
use Rattle.flow_core.specs.Graph.{Graph}
use Rattle.bpl_model.specs.Module.{Proc, Module}
use Rattle.bpl_model.specs.Cut.{cut_calls}
use Rattle.bpl_model.proofs.Spelled.{program}
use Rattle.bpl_model.proofs.Programs.{inc, main, need, needs_twice, returns_early}
use Rattle.bpl_model.proofs.WithClauses as clauses
use Rattle.bpl_blocks.specs.Blocks.{to_blocks}
use Rattle.loop_cut.specs.Cut.{cut}

abbrev graph : Module → Proc → Graph
graph m p = to_blocks m (cut_calls m p)

main_stays : cut (graph (program [] (inc ∷ main ∷ [])) main) ≡ graph (program [] (inc ∷ main ∷ [])) main
main_stays = refl

needs_twice_stays : cut (graph (program [] (need ∷ needs_twice ∷ [])) needs_twice) ≡ graph (program [] (need ∷ needs_twice ∷ [])) needs_twice
needs_twice_stays = refl

returns_early_stays : cut (graph (program [] (returns_early ∷ [])) returns_early) ≡ graph (program [] (returns_early ∷ [])) returns_early
returns_early_stays = refl

clauses_stay : cut (graph clauses.calls clauses.b) ≡ graph clauses.calls clauses.b
clauses_stay = refl
