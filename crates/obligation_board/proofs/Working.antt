-- Rounds of a worker, one after another.
use Rattle.std.proofs.Common.{◌≡◌, ◌⊎◌, inr, ℕ, zero, suc, ◌+◌, ◌<◌, ◌≤◌, ◌==◌, Bool, true, false, cond, List, [], ◌∷◌, ◌++◌, map, length, refl, sym, ap, ◌∙◌, subst, append_assoc, length-append, Option, Result, Ok, Err, arith}
use Rattle.std.specs.Prelude.{All, IfOk, IfErr}
use Rattle.std.specs.List.{flat_map, sum_by}
use Rattle.std.proofs.lemmas.List.{map-append, flat_map_more}
use Rattle.std.proofs.lemmas.List.Sums.{sum_by-append}
use Rattle.std.proofs.lemmas.List.Elements.{All-push}
use Rattle.turn_lock.specs.History.{StartsWith, calls_by}
use Rattle.board_core.specs.Board.{Ticket, Event, Reply, claim, claimed, Call}
use Rattle.board_core.specs.History.{Entry}
use Rattle.board_core.specs.Kept.{Key}
use Rattle.obligation_board.specs.Rounds.{made_by, Round, no_question, answered, calls_of, deposits_of, IsRight, IsEnd, AreRounds, IsTry, IsSettled}
use Rattle.obligation_board.specs.declared.worker.Ended.{Ended}
use Rattle.obligation_board.specs.declared.worker.Ended.TheVariants as end
use Rattle.atomic_table.specs.declared.shared.Seat.{Seat}
use Rattle.turn_lock.specs.declared.rule.View.{View}
use Rattle.turn_lock.specs.Lock.{number, mine, seen}
use Rattle.obligation_board.specs.Calls.{IsCall}

-- a pass made no more calls than all passes did
pub no_more : {A : Type 0} (by : ℕ) (h : List (Entry A)) → length (calls_by by h) ≤ length h
no_more by [] = omega arith
no_more by (e ∷ es) = by_test (e.0 == by) (no_more by es)
  where
    by_test : (b : Bool) → length (calls_by by es) ≤ length es → length (cond b (e ∷ calls_by by es) (calls_by by es)) ≤ length (e ∷ es)
    by_test true h = omega arith
    by_test false h = omega arith

-- calls after calls
pub made_more : {A : Type 0} (n : ℕ) (m m' m'' : List (Entry A)) (cs ds : List (Call A)) → m' ≡ m ++ made_by n cs → m'' ≡ m' ++ made_by n ds → m'' ≡ m ++ made_by n (cs ++ ds)
made_more n m m' m'' cs ds p q = q ∙ (ap (λ l. l ++ made_by n ds) p ∙ (append_assoc m (made_by n cs) (made_by n ds) ∙ ap (λ l. m ++ l) (sym (map-append (λ c. (n, c)) cs ds))))

made_length : {A : Type 0} (n : ℕ) (cs : List (Call A)) → length (made_by n cs) ≡ length cs
made_length n [] = refl
made_length n (c ∷ cs) = let rest = made_length n cs in omega arith

module _ {A Q : Type 0} (key : Q → Key) (gives : Q → A → Type 0) where
  pub no_rounds : AreRounds key gives 0 []
  no_rounds = record { rounds = []; right = λ k d less. absurd (omega arith); made = refl; counted = refl }

  pub one_round : (r : Round A Q) (d d' : ℕ) (cs : List (Call A)) → IsRight key gives r → d' ≡ d + deposits_of r → AreRounds key gives d cs → AreRounds key gives d' (cs ++ calls_of r)
  one_round r d d' cs right is h = record {
    rounds = h.rounds ++ r ∷ [];
    right = All-push (IsRight key gives) h.rounds r h.right right;
    made = ap (λ l. l ++ calls_of r) h.made ∙ flat_map_more calls_of [] h.rounds r;
    counted = let more = sum_by-append deposits_of h.rounds (r ∷ []) in let was = h.counted in omega arith;
  }

  few : (r : Round A Q) → deposits_of r ≤ length (calls_of r)
  few no_question = omega arith
  few (answered t q a n) = omega arith

  few_each : (rs : List (Round A Q)) → sum_by deposits_of rs ≤ length (flat_map calls_of rs)
  few_each [] = omega arith
  few_each (r ∷ rs) = let f = few r in let g = few_each rs in let s = sum_by-append deposits_of (r ∷ []) rs in let l = length-append (calls_of r) (flat_map calls_of rs) in omega arith

  -- there are no more deposits than calls
  pub few_deposits : (d : ℕ) (cs : List (Call A)) → AreRounds key gives d cs → d ≤ length cs
  few_deposits d cs h = let f = few_each h.rounds in subst (λ (l : List (Call A)). d ≤ length l) (sym h.made) (subst (λ n. n ≤ length (flat_map calls_of h.rounds)) (sym h.counted) f)

  -- so more deposits can be counted where a place can count the calls
  pub fits : (n d more most : ℕ) (m m' : List (Entry A)) (cs : List (Call A)) → m' ≡ m ++ made_by n cs → AreRounds key gives d cs → (0 < more → length m' + more < most) → d < most → d + more < most
  fits n d zero most m m' cs is rounds room own = omega arith
  fits n d (suc k) most m m' cs is rounds room own =
      let less : length m' + suc k < most = room (omega arith) in
      let f = few_deposits d cs rounds in
      let a : length m' ≡ length (m ++ made_by n cs) = ap length is in
      let b = length-append m (made_by n cs) in
      let c = made_length n cs in
      omega arith

  -- a place counts the calls before the claim too
  pub room_before : (t : Ticket) (r : Result ℕ Ended) (ds : List (Call A)) (n n' most : ℕ) → IsSettled key gives t r ds → n' ≡ n + 1 → IfOk r (λ _. n' < most) → IfOk r (λ d. 0 < d → n + d < most)
  room_before t (Ok d) ds n n' most h is less = λ some. let one = h.3 in omega arith
  room_before t (Err e) ds n n' most h is less = tt

  -- what became of a claim, after the claim
  pub after_claim : (t : Ticket) (r : Result ℕ Ended) (ds : List (Call A)) → IsSettled key gives t r ds → IsTry key gives r (record { event = claim; reply = claimed t } ∷ ds)
  after_claim t (Ok d) ds h = (answered t h.0 h.1 h.2, (h.5, h.6), ap (λ l. record { event = claim; reply = claimed t } ∷ l) h.4, h.3)
  after_claim t (Err e) ds h = subst (λ x. IsEnd x (record { event = claim; reply = claimed t } ∷ ds)) (sym h.0) (inr (t, ap (λ l. record { event = claim; reply = claimed t } ∷ l) h.1))

  -- a worker that was given a claim doesn't end for a close
  pub ends_open : (P : Type 0) (t : Ticket) (r : Result ℕ Ended) (ds : List (Call A)) → IsSettled key gives t r ds → IfErr r (λ e. e ≡ end.Closed → P)
  ends_open P t (Ok d) ds h = tt
  ends_open P t (Err e) ds h = λ closed. absurd (cc (h.0, closed))

  -- one claim more after some rounds
  pub rounds_more : (d d' : ℕ) (cs ds : List (Call A)) → AreRounds key gives d cs → IsTry key gives (Ok d') ds → AreRounds key gives (d + d') (cs ++ ds)
  rounds_more d d' cs ds h t = subst (λ l. AreRounds key gives (d + d') (cs ++ l)) (sym t.2) (one_round t.0 d (d + d') cs t.1 (ap (λ n. d + n) t.3) h)

-- the pass has made no more calls than the place of its next one
pub few_own : {S A : Type 0} (key_of : A → Key) (Right : A → Type 0) (p q : Seat (Option S) (View S (Call A))) (e : Event A) (place : ℕ) (r : Reply A) → IsCall key_of Right p q e place r → length (mine p) ≤ place
few_own key_of Right p q e place r call =
    let few = no_more (number p) call.before in
    let own : length (calls_by (number p) call.before) ≡ length (mine p) = ap length call.own_calls in
    let at = call.at_its_place in
    omega arith

-- a beginning of a beginning
pub begins_on : {E : Type 0} (a b c : List (ℕ × E)) → StartsWith b a → StartsWith c b → StartsWith c a
begins_on a b c p q = (p.0 ++ q.0, q.1 ∙ (ap (λ l. l ++ q.0) p.1 ∙ append_assoc a p.0 q.0))

-- what the pass has seen after a call begins with what it had seen
pub sees_more : {S A : Type 0} (key_of : A → Key) (Right : A → Type 0) (p q : Seat (Option S) (View S (Call A))) (e : Event A) (place : ℕ) (r : Reply A) → IsCall key_of Right p q e place r → StartsWith (seen q) (seen p)
sees_more key_of Right p q e place r call = begins_on (seen p) call.before (seen q) call.after_all_seen ((number p, record { event = e; reply = r }) ∷ [], call.seen)
