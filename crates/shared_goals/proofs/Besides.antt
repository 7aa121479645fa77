-- What the opener's calls are for a session.
use Rattle.std.proofs.Common.{◌≡◌, ◌⊎◌, ◌∙◌, refl, sym, ap, subst, ℕ, ◌==◌, Bool, true, false, cond, IsTrue, List, [], ◌∷◌, ◌++◌, map, Option, append-nil, inl, inr}
use Rattle.std.proofs.lemmas.List.{map-append}
use Rattle.obligation_text.specs.Asked.{Asked, key_of, KeysTellApart}
use Rattle.tableau.specs.Settled.{Settled, IsRight, settled_by}
use Rattle.turn_lock.specs.Lock.{number, mine, seen}
use Rattle.turn_lock.specs.History.{calls_by}
use Rattle.std.proofs.lemmas.Bool.{eqb-true}
use Rattle.board_core.specs.History.{replay}
use Rattle.board_core.specs.Sound.{IsSound}
use Rattle.board_core.specs.Board.{gather, gathered, no_memory, memory}
use Rattle.board_core.proofs.Soundness.{histories_sound}
use Rattle.goal_board.specs.Calls.{BoardCall, made, answer_key, all_kept}
use Rattle.goal_board.specs.Working.{Working, Settling, IsGathered, IsWork, shows_all}
use Rattle.goal_board.specs.Working as working
use Rattle.goal_board.specs.Found.{found}
use Rattle.goal_board.specs.Made.{AreMade, AreSettled, AreWork}
use Rattle.goal_board.proofs.Betweens.{effects_are_between}
use Rattle.goal_board.proofs.Gathering.{gathered_are_the_searchs, kept_stay}
use Rattle.shared_goals.specs.Known.{GoalEntry, by_opener, board_after, board_of, KnowsOwn}
use Rattle.shared_goals.specs.Opener.{GoalPass, GoalsShared, IsOpenerOf, StaysOpener, HasSettled, HasWorked}
use Rattle.shared_goals.specs.Beside.{own_calls}
use Rattle.shared_goals.proofs.Histories.{passes_are_between}
use Rattle.shared_goals.proofs.Openers.{later_more, working_more}

without_number : (cs : List BoardCall) → map (λ e. e.1) (by_opener cs) ≡ cs
without_number [] = refl
without_number (c ∷ cs) = ap (λ l. c ∷ l) (without_number cs)

module _ (b : GoalsShared) (p q : GoalPass) where
  pub are_made : (calls : List BoardCall) → StaysOpener b p q calls → AreMade 1 (board_of p) (own_calls p) (board_of q) (own_calls q) calls
  are_made calls h = record {
    between = passes_are_between p q calls h.later;
    are_noted = λ some. ap (λ m. map (λ e. e.1) m) h.later.made ∙ (map-append (λ e. e.1) (mine p) (by_opener calls) ∙ ap (λ l. own_calls p ++ l) (without_number calls));
  }

  pub work_made : HasWorked b p q → AreWork 1 (board_of p) (own_calls p) (board_of q) (own_calls q)
  work_made h = record { calls = h.calls; are = are_made h.calls h.stays; work = record { before = h.calls; are = h.are; is = inl refl } }

-- the board of an opener is sound
sound_opener : (p : GoalPass) → KnowsOwn p → IsSound Settled answer_key IsRight (board_of p)
sound_opener p knows = by_calls (mine p) (elim knows [
  | inl none ↦ inl none
  | inr k ↦ inr (histories_sound answer_key IsRight (seen p) k.legal)
])
  where
    by_calls : (m : List GoalEntry) → (m ≡ []) ⊎ IsSound Settled answer_key IsRight (replay (seen p)) → IsSound Settled answer_key IsRight (board_after m (seen p))
    by_calls [] h = histories_sound answer_key IsRight [] tt
    by_calls (c ∷ m) (inl none) = absurd (cc)
    by_calls (c ∷ m) (inr sound) = sound

module _ (b : GoalsShared) (p m q : GoalPass) (h : HasSettled b p m) where
  pub refused_made : StaysOpener b m q (made no_memory memory ∷ []) → AreWork 1 (board_of p) (own_calls p) (board_of q) (own_calls q)
  refused_made k =
      let calls = h.calls ++ made no_memory memory ∷ [] in
      record { calls = calls; are = are_made b p q calls (later_more b p m q h.calls (made no_memory memory ∷ []) h.stays k); work = record { before = calls; are = working_more h.are (working.Working.refused working.Working.no_more); is = inl refl } }

  module _ (shown : List (Option Settled)) (k : StaysOpener b m q (made gather (gathered shown) ∷ [])) where
    abbrev all_calls : List BoardCall
    all_calls = h.calls ++ made gather (gathered shown) ∷ []

    as_working : Working h.calls
    as_working = subst Working (append-nil h.calls) (working_more h.are working.Working.no_more)

    pub unmade : AreWork 1 (board_of p) (own_calls p) (board_of q) (own_calls q)
    unmade = record { calls = all_calls; are = are_made b p q all_calls (later_more b p m q h.calls (made gather (gathered shown) ∷ []) h.stays k); work = record { before = h.calls; are = as_working; is = inr (shown, refl) } }

    is_gathered : IsTrue (shows_all shown) → IsGathered all_calls shown
    is_gathered all = record { before = h.calls; are = h.are; is = refl; all = all }

    pub settled_made : (found_ : List Settled) → IsTrue (shows_all shown) → found_ ≡ found shown → AreSettled 1 (board_of p) (own_calls p) (board_of q) (own_calls q) found_
    settled_made found_ all is = record { calls = all_calls; shown = shown; are = are_made b p q all_calls (later_more b p m q h.calls (made gather (gathered shown) ∷ []) h.stays k); gathered = is_gathered all; answers = is }

    pub kept_made : IsTrue (all_kept (board_of m)) → IsTrue (all_kept (board_of q))
    kept_made all = kept_stay 1 (board_of m) (board_of q) (effects_are_between 1 (board_of m) (board_of q) (made gather (gathered shown) ∷ []) (passes_are_between m q (made gather (gathered shown) ∷ []) k.later)) all

    pub answers_made : KeysTellApart → (qs : List Asked) → IsOpenerOf b p → IsTrue (shows_all shown) → (board_of p).present ≡ map key_of qs → found shown ≡ map settled_by qs
    answers_made apart qs o all keys =
        (gathered_are_the_searchs apart 1 (board_of p) (board_of q) all_calls shown qs (sound_opener p o.knows)
        (passes_are_between p q all_calls (later_more b p m q h.calls (made gather (gathered shown) ∷ []) h.stays k).later) (is_gathered all) keys).0

-- ---- by the result of a call

module _ (b : GoalsShared) (p q : GoalPass) where
  pub none_opened : StaysOpener b p q (made no_memory memory ∷ []) → AreMade 1 (board_of p) (own_calls p) (board_of q) (own_calls q) [] ⊎ AreMade 1 (board_of p) (own_calls p) (board_of q) (own_calls q) (made no_memory memory ∷ [])
  none_opened h = inr (are_made b p q (made no_memory memory ∷ []) h)

-- ---- the opener's own calls are all by the number 0

calls_named : (n : ℕ) (h : List GoalEntry) → calls_by n h ≡ map (λ c. (n, c)) (map (λ e. e.1) (calls_by n h))
calls_named n [] = refl
calls_named n (e ∷ es) = by_test (e.0 == n) refl (calls_named n es)
  where
    by_test : (b : Bool) → (e.0 == n) ≡ b → calls_by n es ≡ map (λ c. (n, c)) (map (λ x. x.1) (calls_by n es))
        → cond b (e ∷ calls_by n es) (calls_by n es) ≡ map (λ c. (n, c)) (map (λ x. x.1) (cond b (e ∷ calls_by n es) (calls_by n es)))
    by_test true is rest = λ i. (eqb-true e.0 n is i, e.1) ∷ rest i
    by_test false is rest = rest

pub all_own : (p : GoalPass) → KnowsOwn p → number p ≡ 0 → mine p ≡ by_opener (own_calls p)
all_own p knows zero = elim knows [
  | inl none ↦ none ∙ sym (ap (λ m. by_opener (map (λ e. e.1) m)) none)
  | inr k ↦ (let is : calls_by 0 (seen p) ≡ mine p = ap (λ n. calls_by n (seen p)) (sym zero) ∙ k.own_calls in
      sym is ∙ (calls_named 0 (seen p) ∙ ap (λ m. by_opener (map (λ e. e.1) m)) is))
]
