-- The opener's calls, when a command has run on a board that is shared with workers.
use Rattle.std.proofs.Common.{◌≡◌, ◌∙◌, refl, sym, ap, subst, ℕ, List, [], ◌∷◌, ◌++◌, map}
use Rattle.std.proofs.lemmas.List.{map-append}
use Rattle.tableau.specs.Settled.{Settled}
use Rattle.turn_lock.specs.Lock.{number, seen, mine}
use Rattle.board_core.specs.Board.{first, close, closed_now}
use Rattle.obligation_board.specs.Passes.{IsPassOf}
use Rattle.goal_board.specs.Calls.{BoardCall, made}
use Rattle.shared_goals.specs.Known.{by_opener, board_after, board_of, IsLaterPass}
use Rattle.shared_goals.specs.Opener.{GoalPass, GoalsShared, IsOpenerOf}
use Rattle.shared_goals.specs.Beside.{own_calls}
use Rattle.shared_goals.proofs.Openers.{unused_opener}
use Rattle.shared_goals.proofs.Besides.{all_own}
use Rattle.edit_session.specs.Served.{NothingIsServed}
use Rattle.command_words.specs.declared.command.Command.{Command}
use Rattle.edit_server.specs.Ran.{Outside, Ran}
use Rattle.shared_goals.specs.Unused.{IsUnused}
use Rattle.text_answers.specs.declared.status.Status.{Status}
use Rattle.text_answers.specs.declared.status.Status.TheVariants.{Memory}
use Rattle.edit_server.proofs.Runs.{nothing_ran}

-- ---- before the first call

module _ (p : GoalPass) (unused : IsUnused p) where
  pub is_opener : (b : GoalsShared) → IsPassOf b p → IsOpenerOf b p
  is_opener b pass = unused_opener b p pass unused.zero unused.none_made

  pub begins_first : board_of p ≡ first Settled
  begins_first = ap (λ m. board_after m (seen p)) unused.none_made

-- ---- behind the close

module _ (p q : GoalPass) (later : IsLaterPass p q (made close closed_now ∷ [])) where
  closed : own_calls q ≡ own_calls p ++ made close closed_now ∷ []
  closed = ap (map (λ e. e.1)) later.made ∙ map-append (λ e. e.1) (mine p) (by_opener (made close closed_now ∷ []))

  pub ran_closed : (c : Command) (s t : Outside) (status : Status) → Ran c (own_calls p ++ made close closed_now ∷ []) s t status → Ran c (own_calls q) s t status
  ran_closed c s t status r = subst (λ calls. Ran c calls s t status) (sym closed) r

  pub all_by_opener : mine q ≡ by_opener (own_calls q)
  all_by_opener = all_own q later.after later.opener.1

-- ---- at once closed

module _ (p q : GoalPass) (unused : IsUnused p) (is : mine q ≡ mine p ++ (number p, made close closed_now) ∷ []) where
  one_call : mine q ≡ by_opener (made close closed_now ∷ [])
  one_call = is ∙ (λ i. unused.none_made i ++ (unused.zero i, made close closed_now) ∷ [])

  only_close : own_calls q ≡ made close closed_now ∷ []
  only_close = ap (map (λ e. e.1)) one_call

  pub one_by_opener : mine q ≡ by_opener (own_calls q)
  one_by_opener = one_call ∙ ap by_opener (sym only_close)

  pub ran_at_once : NothingIsServed → (c : Command) (s : Outside) → Ran c (own_calls q) s s Memory
  ran_at_once nothing c s = subst (λ calls. Ran c calls s s Memory) (sym only_close) (nothing_ran nothing c s)
