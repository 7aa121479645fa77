-- A generated program for which there was no memory.
use Rattle.std.proofs.Common.{◌≡◌, sym, subst, inl, refl, ℕ, List, [], ◌∷◌, ◌++◌}
use Rattle.board_core.specs.Board.{close, closed_now}
use Rattle.goal_board.specs.Calls.{BoardCall, made}
use Rattle.goal_board.specs.Working as working
use Rattle.edit_session.specs.GenCalls as outcome
use Rattle.edit_server.specs.Generated.{IsStarvedBy}

-- before any call but the close
pub none_starved : (turns : ℕ) (calls : List BoardCall) → calls ≡ [] → IsStarvedBy turns (calls ++ made close closed_now ∷ [])
none_starved turns calls none =
    subst (λ cs. IsStarvedBy turns (cs ++ made close closed_now ∷ [])) (sym none) (outcome.GenCalls.of_memory [] (record { before = []; are = working.Working.no_more; is = inl refl }))
