-- The opener after a call.
use Rattle.std.proofs.Common.{◌≡◌, ◌∙◌, refl, sym, ap, subst, arith, ℕ, ◌+◌, ◌-◌, ◌≤◌, Bool, true, false, ◌&&◌, cond, IsTrue, List, [], ◌∷◌, ◌++◌, map, fold, length, count_by, Option, append_assoc, append-nil, inl, inr, Ok, Err}
use Rattle.std.specs.Prelude.{is_some}
use Rattle.std.specs.List.{list_all}
use Rattle.std.proofs.lemmas.List.{map-append}
use Rattle.std.proofs.lemmas.List.Sums.{count_by-le-length, sum_by-cons}
use Rattle.obligation_text.specs.Asked.{Asked}
use Rattle.tableau.specs.Settled.{Settled, IsRight}
use Rattle.turn_lock.specs.History.{StartsWith, calls_by}
use Rattle.turn_lock.specs.Lock.{number, seen, mine}
use Rattle.bv_base.specs.Text.{is_among}
use Rattle.board_core.specs.Kept.{Key, kept_keys, kept_at}
use Rattle.board_core.specs.Board.{Event, claim, give_back, look, gather, no_memory, Reply, claimed, given_back, looked, gathered, memory}
use Rattle.board_core.specs.Step.{reply, done_of}
use Rattle.board_core.specs.History.{Legal, replay}
use Rattle.obligation_board.specs.Calls.{IsCall}
use Rattle.obligation_board.specs.Passes.{IsPassOf, StaysPassOf}
use Rattle.goal_board.specs.Calls.{Board, BoardCall, made, answer_key, all_kept}
use Rattle.goal_board.specs.Between.{Between, closed_by}
use Rattle.goal_board.specs.Working.{Working, Settling, IsGathered, IsWork, shows_all}
use Rattle.goal_board.specs.Working as working
use Rattle.goal_board.proofs.Betweens.{others_decide_nothing}
use Rattle.logic_core.proofs.Booleans.{all_true}
use Rattle.goal_board.proofs.Gathering.{all_kept_shown, kept_stay, never_closed}
use Rattle.obligation_board.specs.Rounds.{made_by, Round, no_question, answered, calls_of, IsTry, IsEnd}
use Rattle.obligation_board.specs.declared.worker.Ended.{Ended}
use Rattle.obligation_board.specs.declared.worker.Ended.TheVariants as end
use Rattle.shared_goals.specs.Known.{GoalEntry, LegalHistory, by_opener, KnowsGoals, board_after, board_of, IsLaterPass}
use Rattle.shared_goals.specs.Opener.{GoalPass, GoalsShared, IsOpenerOf, StaysOpener, HasSettled, HasWorked}
use Rattle.obligation_board.proofs.Growing.{replay_next, legal_behind, legal_start}
use Rattle.obligation_board.proofs.Working.{begins_on}
use Rattle.shared_goals.proofs.Histories.{board_now, between_seen, passes_are_between}

-- ---- no call

-- before its first call, whatever it has seen
pub unused_opener : (b : GoalsShared) (p : GoalPass) → IsPassOf b p → number p ≡ 0 → mine p ≡ [] → IsOpenerOf b p
unused_opener b p pass zero none = record { pass = pass; zero = zero; knows = inl none; unclosed = ap (λ m. (board_after m (seen p)).closed) none }

-- ---- one call more

module _ (b : GoalsShared) (p q : GoalPass) (e : Event Settled) (place : ℕ) (r : Reply Settled) where
  abbrev Called : Type 0
  Called = IsCall answer_key IsRight p q e place r

  pub is_later : IsOpenerOf b p → Called → KnowsGoals q → StaysPassOf b p q → IsLaterPass p q (made e r ∷ [])
  is_later o c knows stays = record {
    opener = (o.zero, stays.1 ∙ o.zero);
    before = o.knows;
    after = inr knows;
    saw = begins_on (seen p) c.before (seen q) c.after_all_seen ((number p, made e r) ∷ [], c.seen);
    made = c.mine ∙ ap (λ (n : ℕ). mine p ++ (n, made e r) ∷ []) o.zero;
  }

  pub stays_opener : IsOpenerOf b p → Called → KnowsGoals q → StaysPassOf b p q → closed_by false e ≡ false → StaysOpener b p q (made e r ∷ [])
  stays_opener o c knows stays goes =
      let l = is_later o c knows stays in
      let d = others_decide_nothing 1 (board_of p) (board_of q) (made e r ∷ []) (passes_are_between p q (made e r ∷ []) l) in
      record {
        opener = record { pass = stays.0; zero = stays.1 ∙ o.zero; knows = l.after; unclosed = d.closed ∙ (ap (λ a. closed_by a e) o.unclosed ∙ goes) };
        later = l;
      }

-- ---- calls behind calls

pub later_more : (b : GoalsShared) (p q r : GoalPass) (es fs : List BoardCall) → StaysOpener b p q es → StaysOpener b q r fs → StaysOpener b p r (es ++ fs)
later_more b p q r es fs h k = record {
  opener = k.opener;
  later = record {
    opener = (h.later.opener.0, k.later.opener.1);
    before = h.later.before;
    after = k.later.after;
    saw = begins_on (seen p) (seen q) (seen r) h.later.saw k.later.saw;
    made = k.later.made ∙ (ap (λ l. l ++ by_opener fs) h.later.made ∙ (append_assoc (mine p) (by_opener es) (by_opener fs) ∙ ap (λ l. mine p ++ l) (sym (map-append (λ (c : BoardCall). (0, c)) es fs))));
  };
}

pub none_later : (b : GoalsShared) (p : GoalPass) → IsOpenerOf b p → StaysOpener b p p []
none_later b p o = record {
  opener = o;
  later = record { opener = (o.zero, o.zero); before = o.knows; after = o.knows; saw = ([], sym (append-nil (seen p))); made = sym (append-nil (mine p)) };
}

-- ---- what a look shows

abbrev one_if : Bool → ℕ
one_if b = cond b 1 0

count_more : (p : Key → Bool) (k : Key) (ks : List Key) → count_by p (k ∷ ks) ≡ one_if (p k) + count_by p ks
count_more p k ks = sum_by-cons (λ j. one_if (p j)) k ks

all_counted : (p : Key → Bool) (ks : List Key) → length ks ≤ count_by p ks → IsTrue (list_all p ks)
all_counted p [] h = refl
all_counted p (k ∷ ks) h = by_test (p k) refl (λ few. all_counted p ks few)
  where
    by_test : (b : Bool) → p k ≡ b → (length ks ≤ count_by p ks → IsTrue (list_all p ks)) → IsTrue (p k && list_all p ks)
    by_test true is rest = let one : one_if (p k) ≡ 1 = ap one_if is in
        all_true (p k) (list_all p ks) is (rest (omega (arith, h, one, count_more p k ks)))
    by_test false is rest = let none : one_if (p k) ≡ 0 = ap one_if is in
        absurd (omega (arith, h, none, count_more p k ks, count_by-le-length p ks))

last_reply : (h : List GoalEntry) (n : ℕ) (e : Event Settled) (r : Reply Settled) → Legal Settled answer_key IsRight (h ++ (n, made e r) ∷ []) → r ≡ reply (replay h) e
last_reply h n e r l = (legal_behind answer_key IsRight [] h ((n, made e r) ∷ []) l).0.reply

pub none_pending : (b : GoalsShared) (p q : GoalPass) (place v d pending : ℕ) (c : Bool) → IsCall answer_key IsRight p q look place (looked v d pending c) → pending ≡ 0 → IsTrue (all_kept (board_of q))
none_pending b p q place v d pending c call none =
    let before = replay call.before in
    let entry : GoalEntry = (number p, made look (looked v d pending c)) in
    let made_now : board_of q ≡ replay (seen q) = ap (λ m. board_after m (seen q)) call.mine ∙ board_now (mine p) entry (seen q) in
    let here : board_of q ≡ before = made_now ∙ (ap replay call.seen ∙ replay_next call.before entry) in
    let told : looked v d pending c ≡ reply before look = last_reply call.before (number p) look (looked v d pending c) call.legal in
    let many : pending ≡ length before.present - done_of before.present before.kept = cc in
    subst (λ (s : Board). IsTrue (all_kept s)) (sym here) (all_counted (is_among (kept_keys before.kept)) before.present (omega (arith, many, none)))

-- ---- what a gather shows

pub all_shown : (b : GoalsShared) (p q : GoalPass) (place : ℕ) (shown : List (Option Settled)) → IsOpenerOf b p → IsCall answer_key IsRight p q gather place (gathered shown) → IsTrue (all_kept (board_of p)) → IsTrue (shows_all shown)
all_shown b p q place shown o call all =
    let before = replay call.before in
    let legal : LegalHistory call.before = legal_start answer_key IsRight [] call.before ((number p, made gather (gathered shown)) ∷ []) call.legal in
    let none : calls_by 0 call.before ≡ mine p ++ by_opener [] = ap (λ n. calls_by n call.before) (sym o.zero) ∙ (call.own_calls ∙ sym (append-nil (mine p))) in
    let kept : IsTrue (all_kept before) = kept_stay 1 (board_of p) before (between_seen p o.zero o.knows call.before [] call.after_all_seen legal none) all in
    let told : gathered shown ≡ reply before gather = last_reply call.before (number p) gather (gathered shown) call.legal in
    let is : shown ≡ map (kept_at before.kept) before.present = cc in
    subst (λ xs. IsTrue (list_all is_some xs)) (sym is) (all_kept_shown before.kept before.present kept)

-- ---- a round of work

module _ (b : GoalsShared) (p q : GoalPass) (cs : List BoardCall) where
  pub worked_later : IsOpenerOf b p → StaysPassOf b p q → StartsWith (seen q) (seen p) → mine q ≡ mine p ++ made_by (number p) cs → KnowsGoals q → IsLaterPass p q cs
  worked_later o stays saw made knows = record {
    opener = (o.zero, stays.1 ∙ o.zero);
    before = o.knows;
    after = inr knows;
    saw = saw;
    made = made ∙ ap (λ n. mine p ++ made_by n cs) o.zero;
  }

  still_unclosed : IsOpenerOf b p → IsLaterPass p q cs → fold (λ a (c : BoardCall). closed_by a c.event) false cs ≡ false → (board_of q).closed ≡ false
  still_unclosed o l goes =
      let d = others_decide_nothing 1 (board_of p) (board_of q) cs (passes_are_between p q cs l) in
      d.closed ∙ (ap (λ a. fold (λ a (c : BoardCall). closed_by a c.event) a cs) o.unclosed ∙ goes)

  pub worked_stays : IsOpenerOf b p → StaysPassOf b p q → IsLaterPass p q cs → fold (λ a (c : BoardCall). closed_by a c.event) false cs ≡ false → StaysOpener b p q cs
  worked_stays o stays l goes = record { opener = record { pass = stays.0; zero = stays.1 ∙ o.zero; knows = l.after; unclosed = still_unclosed o l goes }; later = l }

module _ (key : Asked → Key) (gives : Asked → Settled → Type 0) (b : GoalsShared) (p q : GoalPass) (o : IsOpenerOf b p) (stays : StaysPassOf b p q) (saw : StartsWith (seen q) (seen p)) (knows : KnowsGoals q) where
  by_round : (r : Round Settled Asked) → mine q ≡ mine p ++ made_by (number p) (calls_of r) → HasSettled b p q
  by_round no_question made = record { calls = calls_of {Q = Asked} no_question; stays = worked_stays b p q (calls_of {Q = Asked} no_question) o stays (worked_later b p q (calls_of {Q = Asked} no_question) o stays saw made knows) refl; are = working.Settling.none_left working.Settling.no_more }
  by_round (answered t u a n) made = record { calls = calls_of (answered t u a n); stays = worked_stays b p q (calls_of (answered t u a n)) o stays (worked_later b p q (calls_of (answered t u a n)) o stays saw made knows) refl; are = working.Settling.settled working.Settling.no_more }

  pub tried : (d : ℕ) (cs : List BoardCall) → mine q ≡ mine p ++ made_by (number p) cs → IsTry key gives (Ok d) cs → HasSettled b p q
  tried d cs made t = by_round t.0 (made ∙ ap (λ l. mine p ++ made_by (number p) l) t.2)

  by_end : (e : Ended) (cs : List BoardCall) → mine q ≡ mine p ++ made_by (number p) cs → IsEnd e cs → HasWorked b p q
  by_end end.Closed cs made is =
      let l = worked_later b p q cs o stays saw made knows in absurd (never_closed 1 (board_of p) (board_of q) (subst (λ es. Between 1 (board_of p) es (board_of q)) is (passes_are_between p q cs l)) o.unclosed)
  by_end end.Memory cs made is = elim is [
    | inl none ↦ (let es = record { event = no_memory; reply = memory } ∷ [] in let m : mine q ≡ mine p ++ made_by (number p) es = made ∙ ap (λ l. mine p ++ made_by (number p) l) none in
        record { calls = es; stays = worked_stays b p q es o stays (worked_later b p q es o stays saw m knows) refl; are = working.Working.refused working.Working.no_more })
    | inr back ↦ (let t = back.0 in let es = record { event = claim; reply = claimed t } ∷ record { event = give_back t; reply = given_back } ∷ [] in let m : mine q ≡ mine p ++ made_by (number p) es = made ∙ ap (λ l. mine p ++ made_by (number p) l) back.1 in
        record { calls = es; stays = worked_stays b p q es o stays (worked_later b p q es o stays saw m knows) refl; are = working.Working.gave_back working.Working.no_more })
  ]

  pub failed : (e : Ended) (cs : List BoardCall) → mine q ≡ mine p ++ made_by (number p) cs → IsTry key gives (Err e) cs → HasWorked b p q
  failed e cs made t = by_end e cs made t

-- ---- rounds behind rounds

settling_more : {es fs : List BoardCall} → Settling es → Settling fs → Settling (es ++ fs)
settling_more working.Settling.no_more k = k
settling_more (working.Settling.settled h) k = working.Settling.settled (settling_more h k)
settling_more (working.Settling.none_left h) k = working.Settling.none_left (settling_more h k)
settling_more (working.Settling.looked h) k = working.Settling.looked (settling_more h k)

pub working_more : {es fs : List BoardCall} → Settling es → Working fs → Working (es ++ fs)
working_more working.Settling.no_more k = k
working_more (working.Settling.settled h) k = working.Working.settled (working_more h k)
working_more (working.Settling.none_left h) k = working.Working.none_left (working_more h k)
working_more (working.Settling.looked h) k = working.Working.looked (working_more h k)

pub none_settled : (b : GoalsShared) (p : GoalPass) → IsOpenerOf b p → HasSettled b p p
none_settled b p o = record { calls = []; stays = none_later b p o; are = working.Settling.no_more }

pub settled_more : (b : GoalsShared) (p q r : GoalPass) → HasSettled b p q → HasSettled b q r → HasSettled b p r
settled_more b p q r h k = record { calls = h.calls ++ k.calls; stays = later_more b p q r h.calls k.calls h.stays k.stays; are = settling_more h.are k.are }

pub worked_more : (b : GoalsShared) (p q r : GoalPass) → HasSettled b p q → HasWorked b q r → HasWorked b p r
worked_more b p q r h k = record { calls = h.calls ++ k.calls; stays = later_more b p q r h.calls k.calls h.stays k.stays; are = working_more h.are k.are }

pub looked_settled : (b : GoalsShared) (p q : GoalPass) (r : Reply Settled) → StaysOpener b p q (made look r ∷ []) → HasSettled b p q
looked_settled b p q r h = record { calls = made look r ∷ []; stays = h; are = working.Settling.looked working.Settling.no_more }
