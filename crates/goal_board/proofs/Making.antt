-- Calls that were made, one after another, and what a session's work leaves as it was.
use Rattle.std.proofs.Common.{◌≡◌, ◌∙◌, refl, sym, ap, subst, append_assoc, append-nil, ℕ, Bool, List, [], ◌∷◌, ◌++◌, fold, Option, inl, inr}
use Rattle.tableau.specs.Settled.{Settled}
use Rattle.board_core.specs.Kept.{Key}
use Rattle.board_core.specs.Board.{gather, gathered}
use Rattle.goal_board.specs.Calls.{Board, BoardCall, made, Plays}
use Rattle.goal_board.specs.Between.{Merged, nothing, from_own, from_theirs, Between, keys_by, version_by, closed_by}
use Rattle.goal_board.specs.Working.{Working, Settling, IsGathered, IsWork}
use Rattle.goal_board.specs.Working as working
use Rattle.goal_board.specs.Made.{AreMade, AreSettled, AreWork}
use Rattle.goal_board.proofs.Betweens.{betweens_add, others_decide_nothing}
use Rattle.goal_board.proofs.ByItself.{plays_are_between}

-- ---- one after another

pub made_none : (workers : ℕ) (s : Board) (noted : List BoardCall) → AreMade workers s noted s noted []
made_none workers s noted = record { between = plays_are_between workers s s [] refl; are_noted = λ some. sym (append-nil noted) }

pub made_more : (workers : ℕ) (s t u : Board) (n n' n'' : List BoardCall) (es fs : List BoardCall) → AreMade workers s n t n' es → AreMade workers t n' u n'' fs → AreMade workers s n u n'' (es ++ fs)
made_more workers s t u n n' n'' es fs a b = record {
  between = betweens_add workers s t u es fs a.between b.between;
  are_noted = λ some. b.are_noted some ∙ ap (λ l. l ++ fs) (a.are_noted some) ∙ append_assoc n es fs;
}

-- ---- by itself a board does the own calls alone

all_own : {xs ys zs : List BoardCall} → Merged xs ys zs → ys ≡ [] → zs ≡ xs
all_own nothing e = refl
all_own (from_own {x = x} h) e = ap (λ l. x ∷ l) (all_own h e)
all_own (from_theirs h) e = absurd (cc)

pub plays_alone : (workers : ℕ) (s t : Board) (own : List BoardCall) → workers ≡ 0 → Between workers s own t → Plays s own t
plays_alone workers s t own none h = subst (λ (es : List BoardCall). Plays s es t) (all_own h.together (h.no_workers none)) h.plays

-- ---- work neither opens nor closes

pub record IsProgramKept (s t : Board) : Type 0 where
  pub present : t.present ≡ s.present
  pub version : t.version ≡ s.version
  pub closed : t.closed ≡ s.closed

abbrev DecidesNothing : List BoardCall → Type 0
DecidesNothing es = (ks : List Key) (n : ℕ) (b : Bool)
    → (fold (λ js (c : BoardCall). keys_by js c.event) ks es ≡ ks) × (fold (λ m (c : BoardCall). version_by m c.event) n es ≡ n) × (fold (λ a (c : BoardCall). closed_by a c.event) b es ≡ b)

nothing_decided : {es : List BoardCall} → Working es → DecidesNothing es
nothing_decided working.Working.no_more ks n b = (refl, refl, refl)
nothing_decided (working.Working.settled h) ks n b = nothing_decided h ks n b
nothing_decided (working.Working.gave_back h) ks n b = nothing_decided h ks n b
nothing_decided (working.Working.none_left h) ks n b = nothing_decided h ks n b
nothing_decided (working.Working.looked h) ks n b = nothing_decided h ks n b
nothing_decided (working.Working.refused h) ks n b = nothing_decided h ks n b

-- a gather behind it decides nothing either
then_gathered : {es : List BoardCall} → Working es → (shown : List (Option Settled)) → DecidesNothing (es ++ made gather (gathered shown) ∷ [])
then_gathered working.Working.no_more shown ks n b = (refl, refl, refl)
then_gathered (working.Working.settled h) shown ks n b = then_gathered h shown ks n b
then_gathered (working.Working.gave_back h) shown ks n b = then_gathered h shown ks n b
then_gathered (working.Working.none_left h) shown ks n b = then_gathered h shown ks n b
then_gathered (working.Working.looked h) shown ks n b = then_gathered h shown ks n b
then_gathered (working.Working.refused h) shown ks n b = then_gathered h shown ks n b

work_decides : (own : List BoardCall) → IsWork own → DecidesNothing own
work_decides own h = elim h.is [
  | inl same ↦ subst DecidesNothing (sym same) (nothing_decided h.are)
  | inr last ↦ subst DecidesNothing (sym last.1) (then_gathered h.are last.0)
]

pub work_keeps_program : (workers : ℕ) (s t : Board) (noted noted' : List BoardCall) → AreWork workers s noted t noted' → IsProgramKept s t
work_keeps_program workers s t noted noted' h =
    let d = others_decide_nothing workers s t h.calls (h.are).between in
    let k = work_decides h.calls h.work s.present s.version s.closed in
    record { present = d.present ∙ k.0; version = d.version ∙ k.1; closed = d.closed ∙ k.2 }

-- ---- goals that are settled, and then gathered, are worked on

settling_works : {es : List BoardCall} → Settling es → Working es
settling_works working.Settling.no_more = working.Working.no_more
settling_works (working.Settling.settled h) = working.Working.settled (settling_works h)
settling_works (working.Settling.none_left h) = working.Working.none_left (settling_works h)
settling_works (working.Settling.looked h) = working.Working.looked (settling_works h)

pub gathered_work : (own : List BoardCall) (shown : List (Option Settled)) → IsGathered own shown → IsWork own
gathered_work own shown h = record { before = h.before; are = settling_works h.are; is = inr (shown, h.is) }

pub settled_are_work : (workers : ℕ) (s t : Board) (noted noted' : List BoardCall) (these : List Settled) → AreSettled workers s noted t noted' these → AreWork workers s noted t noted'
settled_are_work workers s t noted noted' these h = record { calls = h.calls; are = h.are; work = gathered_work h.calls h.shown h.gathered }
