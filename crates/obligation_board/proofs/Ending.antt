-- What a board stands for after one more call of a pass.
use Rattle.std.proofs.Common.{◌≡◌, ℕ, ◌<◌, List, [], ◌∷◌, ◌++◌, length, Option, Some, sym, ap, ◌∙◌, subst, arith}
use Rattle.std.specs.Prelude.{Contains}
use Rattle.atomic_table.specs.declared.shared.Seat.{Seat}
use Rattle.turn_lock.specs.declared.rule.View.{View}
use Rattle.turn_lock.specs.History.{StartsWith, calls_by}
use Rattle.turn_lock.specs.Lock.{IsSamePass, number, seen, mine, and_then}
use Rattle.board_core.specs.Kept.{Key}
use Rattle.board_core.specs.Board.{Ticket, State, Event, open_keys, claim, deposit, give_back, look, gather, close, no_memory, Reply, Call}
use Rattle.board_core.specs.Step.{reply, Steps}
use Rattle.board_core.specs.History.{Entry, replay, WasGiven, LegalAfter, Legal, StandsFor, after_call, held}
use Rattle.obligation_board.specs.Calls.{Holds, MayCall, IsCall, claims_of}
use Rattle.board_core.proofs.Soundness.{histories_grow}
use Rattle.board_core.proofs.Counts.{counts_are_calls}
use Rattle.obligation_board.proofs.Held.{held_own, held_next, held_are_out}

module _ {S A : Type 0} (key_of : A → Key) (Right : A → Type 0) where
  -- a claim that a pass holds is out, and was given to it
  pub out_for : (p : Seat (Option S) (View S (Call A))) (log : List (Entry A)) (t : Ticket) → Legal A key_of Right log → calls_by (number p) log ≡ mine p → Holds p t
      → WasGiven log (number p) t × Contains (replay log).out t
  out_for p log t legal own h = held_are_out key_of Right log (number p) t legal (subst (λ ts. Contains ts t) (sym (held_own (number p) log ∙ ap (held (number p)) own)) h)

  pub is_out : (p : Seat (Option S) (View S (Call A))) (s : State A) (log : List (Entry A)) (t : Ticket) → StandsFor A key_of Right s log → calls_by (number p) log ≡ mine p → Holds p t
      → Contains s.out t
  is_out p s log t stands own h = subst (λ (z : State A). Contains z.out t) (sym stands.1) (out_for p log t stands.0 own h).1

  legal_call : (p : Seat (Option S) (View S (Call A))) (log : List (Entry A)) (e : Event A) (r : Reply A) → Legal A key_of Right log → calls_by (number p) log ≡ mine p
      → r ≡ reply (replay log) e → MayCall key_of Right p e → LegalAfter A key_of Right log (number p, record { event = e; reply = r })
  legal_call p log (open_keys ks) r legal own is m = record { stands = tt; made_by = m; reply = is }
  legal_call p log claim r legal own is m = record { stands = tt; made_by = tt; reply = is }
  legal_call p log (deposit t a) r legal own is m = let o = out_for p log t legal own m.0 in record { stands = (o.1, m.1, m.2); made_by = o.0; reply = is }
  legal_call p log (give_back t) r legal own is m = let o = out_for p log t legal own m in record { stands = o.1; made_by = o.0; reply = is }
  legal_call p log look r legal own is m = record { stands = tt; made_by = tt; reply = is }
  legal_call p log gather r legal own is m = record { stands = tt; made_by = tt; reply = is }
  legal_call p log close r legal own is m = record { stands = tt; made_by = m; reply = is }
  legal_call p log no_memory r legal own is m = record { stands = tt; made_by = tt; reply = is }

  pub stands_after : (p : Seat (Option S) (View S (Call A))) (s s' : State A) (log : List (Entry A)) (e : Event A) (r : Reply A) → StandsFor A key_of Right s log → calls_by (number p) log ≡ mine p
      → Steps s e s' r → MayCall key_of Right p e → StandsFor A key_of Right s' (and_then log p (record { event = e; reply = r }))
  stands_after p s s' log e r stands own step_is m =
      let legal = legal_call p log e r stands.0 own (step_is.1 ∙ ap (λ (z : State A). reply z e) stands.1) m in
      subst (λ (z : State A). StandsFor A key_of Right z (and_then log p (record { event = e; reply = r }))) (sym step_is.0)
      (histories_grow key_of Right s log (number p, record { event = e; reply = r }) stands legal)

  -- a turn that ends with such a call
  pub is_call : (p q : Seat (Option S) (View S (Call A))) (s s' : State A) (log : List (Entry A)) (k k' : Call A) (place : ℕ) → Some k ≡ Some k'
      → StandsFor A key_of Right s log → StartsWith log (seen p) → calls_by (number p) log ≡ mine p → Steps s k.event s' k.reply → MayCall key_of Right p k.event
      → seen q ≡ and_then log p k' → mine q ≡ and_then (mine p) p k' → place ≡ length log
      → IsCall key_of Right p q k'.event place k'.reply
  is_call p q s s' log k k' place same stands starts own step_is m seen_is mine_is at =
      let call_is : k ≡ k' = cc in record {
        before = log;
        legal = subst (λ (c : Call A). Legal A key_of Right (and_then log p c)) call_is (stands_after p s s' log k.event k.reply stands own step_is m).0;
        after_all_seen = starts;
        own_calls = own;
        at_its_place = at;
        seen = seen_is;
        mine = mine_is;
      }

  -- the turn's pass is the caller's
  pub of_caller : (p q r : Seat (Option S) (View S (Call A))) (k k' : Call A) (place : ℕ) → IsSamePass p q × (seen q ≡ seen p) × (mine q ≡ mine p) → k ≡ k'
      → IsCall key_of Right q r k.event place k.reply → IsCall key_of Right p r k'.event place k'.reply
  of_caller p q r k k' place same call_is h =
      let own : IsCall key_of Right q r k'.event place k'.reply = subst (λ (c : Call A). IsCall key_of Right q r c.event place c.reply) call_is h in
      record {
        before = own.before;
        legal = subst (λ n. Legal A key_of Right (own.before ++ (n, k') ∷ [])) same.0.1 own.legal;
        after_all_seen = subst (StartsWith own.before) same.1 own.after_all_seen;
        own_calls = ap (λ n. calls_by n own.before) (sym same.0.1) ∙ (own.own_calls ∙ same.2);
        at_its_place = own.at_its_place;
        seen = own.seen ∙ ap (λ n. own.before ++ (n, k') ∷ []) same.0.1;
        mine = own.mine ∙ (ap (λ m. and_then m q k') same.2 ∙ ap (λ n. mine p ++ (n, k') ∷ []) same.0.1);
      }

  pub claims_after : (p q : Seat (Option S) (View S (Call A))) (e : Event A) (place : ℕ) (r : Reply A) → number q ≡ number p → IsCall key_of Right p q e place r
      → claims_of q ≡ after_call (claims_of p) (record { event = e; reply = r }) e
  claims_after p q e place r same h =
      let k : Call A = record { event = e; reply = r } in
      ap (λ n. held n (mine q)) same ∙ (ap (held (number p)) h.mine ∙ held_next (number p) (mine p) k)

module _ {A : Type 0} (key_of : A → Key) (Right : A → Type 0) where
  -- a board that stands for a history of fewer calls has room for one more version and one more claim
  pub room : (s : State A) (log : List (Entry A)) (most : ℕ) → StandsFor A key_of Right s log → length log < most → (s.version < most) × (s.next < most)
  room s log most stands few = let c = counts_are_calls log in
      subst (λ (z : State A). (z.version < most) × (z.next < most)) (sym stands.1) (omega (arith, c.0), omega (arith, c.1))

pub same_claims : {S A : Type 0} (p q : Seat (Option S) (View S (Call A))) → IsSamePass p q × (seen q ≡ seen p) × (mine q ≡ mine p) → claims_of q ≡ claims_of p
same_claims p q same = ap (λ n. held n (mine q)) same.0.1 ∙ ap (held (number p)) same.2

pub holds_in_turn : {S A : Type 0} (p q : Seat (Option S) (View S (Call A))) (t : Ticket) → IsSamePass p q × (seen q ≡ seen p) × (mine q ≡ mine p) → Holds p t → Holds q t
holds_in_turn p q t same h = subst (λ ts. Contains ts t) (sym (same_claims p q same)) h
