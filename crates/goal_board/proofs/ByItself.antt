-- A session alone: its calls on a board of its own, as any session's.
use Rattle.std.proofs.Common.{◌≡◌, ◌⊎◌, ◌∙◌, refl, sym, subst, IsTrue, List, [], ◌∷◌, ◌++◌, map, Option, inl, Result, Ok, Err}
use Rattle.std.specs.Prelude.{OnErr}
use Rattle.tableau.specs.Settled.{Settled, IsRight, settled_by}
use Rattle.board_core.specs.Kept.{kept_at}
use Rattle.board_core.specs.Board.{gather, gathered, no_memory, memory}
use Rattle.board_core.specs.Step.{reply}
use Rattle.goal_board.specs.Calls.{Board, BoardCall, made, answer_key, Plays, Settles, Works, all_kept}
use Rattle.goal_board.specs.Calls as calls
use Rattle.goal_board.specs.Rests.{IsSettled}
use Rattle.goal_board.specs.Between.{Merged, nothing, from_own}
use Rattle.goal_board.specs.Working.{Working, Settling, IsGathered, IsWork, shows_all}
use Rattle.goal_board.specs.Working as working
use Rattle.goal_board.specs.Made.{AreMade, AreSettled}
use Rattle.goal_board.specs.Found.{found}
use Rattle.goal_board.specs.Laws.{PlaysAreBetween, SettledAlone, WorkedAlone, SteppedAlone}
use Rattle.goal_board.proofs.Played.{plays_more}
use Rattle.goal_board.proofs.Gathering.{all_kept_shown, gathered_are_the_searchs}
use Rattle.obligation_text.specs.Asked.{Asked, key_of, KeysTellApart}
use Rattle.board_core.specs.Sound.{IsSound}

own_alone : (es : List BoardCall) → Merged es [] es
own_alone [] = nothing
own_alone (e ∷ es) = from_own (own_alone es)

pub plays_are_between : PlaysAreBetween
plays_are_between workers s t es p = record { theirs = []; calls = es; together = own_alone es; are_work = refl; no_workers = λ none. refl; plays = p }

made_alone : (s t : Board) (noted noted' : List BoardCall) (es : List BoardCall) → Plays s es t → AreMade 0 s noted t noted' es
made_alone s t noted noted' es p = record { between = plays_are_between 0 s t es p; are_noted = λ some. absurd (some refl) }

settling : {es : List BoardCall} → Settles es → Settling es
settling calls.Settles.no_more = working.Settling.no_more
settling (calls.Settles.settled h) = working.Settling.settled (settling h)
settling (calls.Settles.none_left h) = working.Settling.none_left (settling h)

working_of : {es : List BoardCall} → Works es → Working es
working_of calls.Works.no_more = working.Working.no_more
working_of (calls.Works.settled h) = working.Working.settled (working_of h)
working_of (calls.Works.gave_back h) = working.Working.gave_back (working_of h)
working_of (calls.Works.none_left h) = working.Working.none_left (working_of h)

pub settled_alone : SettledAlone
settled_alone s t noted noted' shown h told =
    let is : shown ≡ map (kept_at t.kept) t.present = cc in
    let es = h.calls ++ made gather (gathered shown) ∷ [] in
    record {
      calls = es;
      shown = shown;
      are = made_alone s t noted noted' es (plays_more s t t h.calls (made gather (gathered shown) ∷ []) h.plays (tt, told, refl));
      gathered = record { before = h.calls; are = settling h.are; is = refl; all = subst (λ xs. IsTrue (shows_all xs)) (sym is) (all_kept_shown t.kept t.present h.all) };
      answers = refl;
    }

pub worked_alone : WorkedAlone
worked_alone s t noted noted' h = record { calls = h.calls; are = made_alone s t noted noted' h.calls h.plays; work = record { before = h.calls; are = working_of h.are; is = inl refl } }

pub stepped_alone : SteppedAlone
stepped_alone s t noted noted' e r stands goes = made_alone s t noted noted' (made e r ∷ []) (stands, goes.1, sym goes.0)

-- ---- by what the calls of a board alone ensure

pub alone_settled : (s t : Board) (shown : List (Option Settled)) (these : List Settled) → IsSettled s t → gathered shown ≡ reply t gather → these ≡ found shown → AreSettled 0 s [] t [] these
alone_settled s t shown these h told is = subst (λ (zs : List Settled). AreSettled 0 s [] t [] zs) (sym is) (settled_alone s t [] [] shown h told)

pub alone_answers : KeysTellApart → (s t : Board) (shown : List (Option Settled)) (these : List Settled) (qs : List Asked) → IsSound Settled answer_key IsRight s → IsSettled s t → gathered shown ≡ reply t gather → these ≡ found shown
    → s.present ≡ map key_of qs → these ≡ map settled_by qs
alone_answers apart s t shown these qs sound h told is keys =
    let d = settled_alone s t [] [] shown h told in
    is ∙ (d.answers ∙ (gathered_are_the_searchs apart 0 s t d.calls d.shown qs sound (d.are).between d.gathered keys).0)

pub on_any_err : {A E : Type 0} {Y : Type 0} (r : Result A E) → Y → OnErr r Y
on_any_err (Ok x) y = tt
on_any_err (Err e) y = y

pub unopened : (s t : Board) → t ≡ s → AreMade 0 s [] t [] [] ⊎ AreMade 0 s [] t [] (made no_memory memory ∷ [])
unopened s t same = inl (made_alone s t [] [] [] (sym same))
