-- What a pass knows after a call.
use Rattle.std.proofs.Common.{◌≡◌, ◌∙◌, refl, sym, ap, subst, ℕ, Bool, true, false, cond, List, [], ◌∷◌, ◌++◌, Option, None, Some, eq-eqb}
use Rattle.atomic_table.specs.declared.shared.Seat.{Seat}
use Rattle.turn_lock.specs.declared.rule.View.{View}
use Rattle.turn_lock.specs.History.{calls_by}
use Rattle.turn_lock.specs.Lock.{number, seen, mine}
use Rattle.board_core.specs.Kept.{Key}
use Rattle.board_core.specs.Board.{State, Event, claim, Reply, was_closed, Call}
use Rattle.board_core.specs.Step.{wanted, with_claim, claim_reply}
use Rattle.board_core.specs.History.{Entry, replay, Legal}
use Rattle.obligation_board.specs.Calls.{IsCall, Knows, SawClose}
use Rattle.obligation_board.specs.Openers.{has_close}
use Rattle.obligation_board.proofs.Growing.{replay_next, calls_next, legal_behind}
use Rattle.obligation_board.proofs.Deciding.{openers_decide}

module _ {S A : Type 0} where
  -- each call tells its pass a legal history, in which its own calls are just those that it made
  pub knows_after : (key_of : A → Key) (Right : A → Type 0) (p q : Seat (Option S) (View S (Call A))) (e : Event A) (place : ℕ) (r : Reply A) → IsCall key_of Right p q e place r → number q ≡ number p → Knows key_of Right q
  knows_after key_of Right p q e place r c same =
      let own : Entry A = (number p, record { event = e; reply = r }) in record {
        legal = subst (Legal A key_of Right) (sym c.seen) c.legal;
        own_calls = (λ i. calls_by (same i) (c.seen i)) ∙ (calls_next (number p) c.before own ∙ (ap (λ b. cond b (calls_by (number p) c.before ++ own ∷ []) (calls_by (number p) c.before)) (eq-eqb (number p) (number p) refl) ∙ (ap (λ l. l ++ own ∷ []) c.own_calls ∙ sym c.mine)));
      }

module _ {A : Type 0} (key_of : A → Key) (Right : A → Type 0) where
  given_or_empty : (s : State A) (o : Option Key) → claim_reply s o ≡ was_closed → ⊥
  given_or_empty s None is = cc
  given_or_empty s (Some k) is = cc

  -- a claim that is answered Closed leaves a closed board as it was
  closed_then : (s : State A) (b : Bool) → s.closed ≡ b → was_closed ≡ cond b was_closed (claim_reply s (wanted s)) → (cond b s (with_claim s (wanted s))).closed ≡ true
  closed_then s true is same = is
  closed_then s false is same = absurd (given_or_empty s (wanted s) (sym same))

  -- where a claim was answered Closed the opener's close stands before it
  pub closed_after : {S : Type 0} (p q : Seat (Option S) (View S (Call A))) (place : ℕ) (r : Reply A) → IsCall key_of Right p q claim place r → r ≡ was_closed → SawClose q
  closed_after p q place r c is =
      let e : Entry A = (number p, record { event = claim; reply = r }) in
      let l = (legal_behind key_of Right [] c.before (e ∷ []) c.legal).0 in
      let s = replay c.before in
      let closed : (replay (c.before ++ e ∷ [])).closed ≡ true = ap (λ (t : State A). t.closed) (replay_next c.before e) ∙ closed_then s s.closed refl (sym is ∙ l.reply) in
      let h = (openers_decide key_of Right (c.before ++ e ∷ []) c.legal).1 in
      ap (λ x. has_close (calls_by 0 x)) c.seen ∙ (sym h ∙ closed)
