-- From a legal history to a session's calls, with others' work between them.
use Rattle.std.proofs.Common.{◌≡◌, ◌⊎◌, ◌∙◌, refl, sym, ap, subst, ℕ, ◌==◌, Bool, true, false, cond, List, [], ◌∷◌, ◌++◌, Option, append_assoc, append-nil, eq-eqb, inl, inr}
use Rattle.std.specs.List.{list_all}
use Rattle.tableau.specs.Settled.{Settled, IsRight}
use Rattle.atomic_table.specs.declared.shared.Seat.{Seat}
use Rattle.turn_lock.specs.declared.rule.View.{View}
use Rattle.turn_lock.specs.History.{StartsWith, calls_by}
use Rattle.turn_lock.specs.Lock.{number, seen, mine}
use Rattle.board_core.specs.Board.{first, Call, Event, open_keys, claim, deposit, give_back, look, gather, close, no_memory}
use Rattle.board_core.specs.Step.{step, reply, MayStand}
use Rattle.board_core.specs.History.{LegalFrom, MayMake, replay}
use Rattle.obligation_board.proofs.Growing.{replay_next, calls_append, legal_behind}
use Rattle.goal_board.specs.Calls.{Board, BoardCall, answer_key}
use Rattle.goal_board.specs.Between.{nothing, from_own, from_theirs, is_work, Between, is_idle}
use Rattle.logic_core.proofs.Booleans.{all_true}
use Rattle.goal_board.proofs.Betweens.{idle_same, stays_between}
use Rattle.shared_goals.specs.Known.{GoalEntry, LegalHistory, by_opener, HistoriesAreBetween, board_after, KnowsGoals, KnowsOwn, board_of, PassesAreBetween}

abbrev LegalOn : List GoalEntry → List GoalEntry → Type 0
LegalOn h es = LegalFrom Settled answer_key IsRight h es

-- another caller's call is work, or changes nothing
works_or_idles : (h : List GoalEntry) (by : ℕ) (e : Event Settled) → (by == 0) ≡ false → MayMake h by e → (is_work e ≡ true) ⊎ (is_idle e ≡ true)
works_or_idles h by (open_keys ks) other may = let yes = eq-eqb by 0 may in absurd (cc (yes, other))
works_or_idles h by claim other may = inl refl
works_or_idles h by (deposit c a) other may = inl refl
works_or_idles h by (give_back c) other may = inl refl
works_or_idles h by look other may = inr refl
works_or_idles h by gather other may = inr refl
works_or_idles h by close other may = let yes = eq-eqb by 0 may in absurd (cc (yes, other))
works_or_idles h by no_memory other may = inr refl

one_own : (s t : Board) (k : BoardCall) (own : List BoardCall) → MayStand answer_key IsRight s k.event → k.reply ≡ reply s k.event → Between 1 (step s k.event) own t → Between 1 s (k ∷ own) t
one_own s t k own stands told b = record { theirs = b.theirs; calls = k ∷ b.calls; together = from_own b.together; are_work = b.are_work; no_workers = b.no_workers; plays = (stands, told, b.plays) }

one_theirs : (s t : Board) (k : BoardCall) (own : List BoardCall) → is_work k.event ≡ true → MayStand answer_key IsRight s k.event → k.reply ≡ reply s k.event → Between 1 (step s k.event) own t → Between 1 s own t
one_theirs s t k own work stands told b = record {
  theirs = k ∷ b.theirs;
  calls = k ∷ b.calls;
  together = from_theirs b.together;
  are_work = all_true (is_work k.event) (list_all (λ (c : BoardCall). is_work c.event) b.theirs) work b.are_work;
  no_workers = λ none. absurd (let e : ◌≡◌ {A = ℕ} 1 0 = none in cc);
  plays = (stands, told, b.plays);
}

between_from : (h more : List GoalEntry) (own : List BoardCall) → LegalOn h more → calls_by 0 more ≡ by_opener own → Between 1 (replay h) own (replay (h ++ more))
between_from h [] [] l is = record { theirs = []; calls = []; together = nothing; are_work = refl; no_workers = λ none. refl; plays = ap replay (sym (append-nil h)) }
between_from h [] (k ∷ own) l is = absurd (cc)
between_from h (e ∷ es) own l is = by_test (e.0 == 0) refl own is (λ own' is'. between_from (h ++ e ∷ []) es own' l.1 is')
  where
    next : (own' : List BoardCall) → Between 1 (replay (h ++ e ∷ [])) own' (replay ((h ++ e ∷ []) ++ es)) → Between 1 (step (replay h) e.1.event) own' (replay (h ++ e ∷ es))
    next own' b = subst (λ (g : List GoalEntry). Between 1 (step (replay h) e.1.event) own' (replay g)) (append_assoc h (e ∷ []) es) (subst (λ (s : Board). Between 1 s own' (replay ((h ++ e ∷ []) ++ es))) (replay_next h e) b)

    by_test : (b : Bool) → (e.0 == 0) ≡ b → (own : List BoardCall) → cond b (e ∷ calls_by 0 es) (calls_by 0 es) ≡ by_opener own
        → ((own' : List BoardCall) → calls_by 0 es ≡ by_opener own' → Between 1 (replay (h ++ e ∷ [])) own' (replay ((h ++ e ∷ []) ++ es)))
        → Between 1 (replay h) own (replay (h ++ e ∷ es))
    by_test true same [] is rest = absurd (cc)
    by_test true same (k ∷ own) is rest =
        let here : e.1 ≡ k = cc in
        let behind : calls_by 0 es ≡ by_opener own = cc in
        subst (λ c. Between 1 (replay h) (c ∷ own) (replay (h ++ e ∷ es))) here (one_own (replay h) (replay (h ++ e ∷ es)) e.1 own l.0.stands l.0.reply (next own (rest own behind)))
    by_test false other own is rest = elim (works_or_idles h e.0 e.1.event other l.0.made_by) [
      | inl work ↦ one_theirs (replay h) (replay (h ++ e ∷ es)) e.1 own work l.0.stands l.0.reply (next own (rest own is))
      | inr idle ↦ subst (λ (s : Board). Between 1 s own (replay (h ++ e ∷ es))) (idle_same (replay h) e.1.event idle) (next own (rest own is))
    ]

pub histories_are_between : HistoriesAreBetween
histories_are_between h more own legal is = between_from h more own (legal_behind answer_key IsRight [] h more legal) is

-- ---- of passes

cancel : {A : Type 0} (xs ys zs : List A) → xs ++ ys ≡ xs ++ zs → ys ≡ zs
cancel [] ys zs e = e
cancel (x ∷ xs) ys zs e = cancel xs ys zs (cc)

no_calls : (own : List BoardCall) → [] ≡ by_opener own → own ≡ []
no_calls [] e = refl
no_calls (k ∷ own) e = absurd (cc)

-- behind a call the board is the one at the end of the history
pub board_now : (m : List GoalEntry) (e : GoalEntry) (h : List GoalEntry) → board_after (m ++ e ∷ []) h ≡ replay h
board_now [] e h = refl
board_now (c ∷ m) e h = refl

module _ {S : Type 0} where
  -- the calls of the opener in what it has seen are its own
  own_seen : (p : Seat (Option S) (View S (Call Settled))) → number p ≡ 0 → KnowsGoals p → calls_by 0 (seen p) ≡ mine p
  own_seen p zero knows = ap (λ n. calls_by n (seen p)) (sym zero) ∙ knows.own_calls

  -- behind a call it knows what it made
  knows_made : (p : Seat (Option S) (View S (Call Settled))) (e : GoalEntry) (m : List GoalEntry) → mine p ≡ e ∷ m → KnowsOwn p → KnowsGoals p
  knows_made p e m is knows = elim knows [
    | inl none ↦ (let both : e ∷ m ≡ [] = sym is ∙ none in absurd (cc))
    | inr k ↦ k
  ]

  -- from what an opener has seen to a longer history
  pub between_seen : (p : Seat (Option S) (View S (Call Settled))) → number p ≡ 0 → KnowsOwn p → (h : List GoalEntry) (own : List BoardCall) → StartsWith h (seen p) → LegalHistory h → calls_by 0 h ≡ mine p ++ by_opener own
      → Between 1 (board_of p) own (replay h)
  between_seen p zero knows h own saw legal is = by_calls (mine p) refl
    where
      by_calls : (m : List GoalEntry) → mine p ≡ m → Between 1 (board_after m (seen p)) own (replay h)
      by_calls [] none = histories_are_between [] h own legal (is ∙ ap (λ m. m ++ by_opener own) none)
      by_calls (e ∷ m) some =
          let more = saw.0 in
          let before : calls_by 0 (seen p) ≡ mine p = own_seen p zero (knows_made p e m some knows) in
          let both : mine p ++ calls_by 0 more ≡ mine p ++ by_opener own =
          ap (λ l. l ++ calls_by 0 more) (sym before) ∙ (sym (calls_append 0 (seen p) more) ∙ (ap (calls_by 0) (sym saw.1) ∙ is)) in
          let b = histories_are_between (seen p) more own (subst LegalHistory saw.1 legal) (cancel (mine p) (calls_by 0 more) (by_opener own) both) in
          subst (λ (g : List GoalEntry). Between 1 (replay (seen p)) own (replay g)) (sym saw.1) b

  pub passes_are_between : PassesAreBetween S
  passes_are_between p q own l = by_calls (mine q) refl
    where
      none_made : (m : List GoalEntry) → mine p ≡ m → [] ≡ m ++ by_opener own → Between 1 (board_after m (seen p)) own (first Settled)
      none_made [] none e = subst (λ es. Between 1 (first Settled) es (first Settled)) (sym (no_calls own e)) (stays_between 1 (first Settled))
      none_made (c ∷ m) some e = absurd (cc)

      by_calls : (n : List GoalEntry) → mine q ≡ n → Between 1 (board_of p) own (board_after n (seen q))
      by_calls [] none = none_made (mine p) refl (sym none ∙ l.made)
      by_calls (e ∷ n) some =
          let k = knows_made q e n some l.after in
          between_seen p l.opener.0 l.before (seen q) own l.saw k.legal (own_seen q l.opener.1 k ∙ l.made)
