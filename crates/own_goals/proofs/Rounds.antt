-- Round after round.
use Rattle.std.proofs.Common.{◌≡◌, ◌∙◌, refl, sym, ap, subst, arith, ◌+◌, ◌-◌, ◌≤◌, IsTrue, [], ◌∷◌, ◌++◌, length, bytes_eq, count_by, inl, inr}
use Rattle.board_core.specs.Kept.{with_answer}
use Rattle.board_core.specs.Board.{claim, deposit, give_back, claimed, was_empty, deposited, given_back}
use Rattle.board_core.specs.Step.{step, done_of}
use Rattle.goal_board.specs.Calls.{Board, made, Settles, Works, all_kept}
use Rattle.goal_board.specs.Calls as calls
use Rattle.goal_board.specs.Rests.{IsAtRest, IsSettled, IsWorkedOn}
use Rattle.goal_board.specs.Made.{AreWork}
use Rattle.own_goals.specs.Rounds.{IsOneSettled, IsNoneLeft, IsOneGivenBack, IsGivenUp}
use Rattle.own_goals.specs.SoFar.{pending, IsSettledSoFar}
use Rattle.goal_board.proofs.Played.{plays_more, settles_more, works_more}
use Rattle.goal_board.proofs.ByItself.{worked_alone}
use Rattle.own_goals.proofs.Claims.{IsClaimed, is_claimed, with_kept, deposits_to, gives_back_to, fewer_wait, one_waits, all_are_kept, stays}

pub none_so_far : (s : Board) → IsAtRest s → IsSettledSoFar s s
none_so_far s rest = record { calls = []; are = calls.Settles.no_more; plays = refl; present = refl; version = refl; rests = rest; claims = omega arith }

-- one round more
pub one_more : (s t u : Board) → IsSettledSoFar s t → IsOneSettled t u → IsSettledSoFar s u
one_more s t u h r =
    let c : IsClaimed t r.ticket = is_claimed t r.ticket h.rests r.claims in
    let is : u ≡ with_kept t (with_answer t.kept c.key r.answer) = r.is ∙ deposits_to t h.rests r.ticket c r.answer in
    let fewer : length t.present - done_of t.present (with_answer t.kept c.key r.answer) + 1 ≤ pending t = fewer_wait t c.key r.answer c.first in
    let waits : pending u ≡ length t.present - done_of t.present (with_answer t.kept c.key r.answer) = ap pending is in
    let next : u.next ≡ t.next + 1 = ap (λ (v : Board). v.next) is in
    let n = count_by (bytes_eq (r.ticket).key) (step t claim).present in
    record {
      calls = h.calls ++ (made claim (claimed r.ticket) ∷ made (deposit r.ticket r.answer) (deposited n) ∷ []);
      are = settles_more h.are (calls.Settles.settled calls.Settles.no_more);
      plays = plays_more s t u h.calls (made claim (claimed r.ticket) ∷ made (deposit r.ticket r.answer) (deposited n) ∷ []) h.plays (tt, r.claims, (r.stands, refl, sym r.is));
      present = ap (λ (v : Board). v.present) is ∙ h.present;
      version = ap (λ (v : Board). v.version) is ∙ h.version;
      rests = record { unclosed = ap (λ (v : Board). v.closed) is ∙ (h.rests).unclosed; none_out = ap (λ (v : Board). v.out) is };
      claims = omega (arith, fewer, waits, next, h.claims);
    }

-- fewer goals wait after it
pub falls : (t u : Board) → IsAtRest t → IsOneSettled t u → pending u + 1 ≤ pending t
falls t u rest r =
    let c : IsClaimed t r.ticket = is_claimed t r.ticket rest r.claims in
    let is : u ≡ with_kept t (with_answer t.kept c.key r.answer) = r.is ∙ deposits_to t rest r.ticket c r.answer in
    let waits : pending u ≡ length t.present - done_of t.present (with_answer t.kept c.key r.answer) = ap pending is in
    omega (arith, fewer_wait t c.key r.answer c.first, waits)

-- none is left
pub ends : (s t u : Board) → IsSettledSoFar s t → IsNoneLeft t u → IsSettled s u
ends s t u h r =
    let is : u ≡ t = r.is ∙ stays t h.rests r.claims in
    record {
      calls = h.calls ++ (made claim was_empty ∷ []);
      are = settles_more h.are (calls.Settles.none_left calls.Settles.no_more);
      plays = plays_more s t u h.calls (made claim was_empty ∷ []) h.plays (tt, r.claims, sym r.is);
      all = subst (λ (v : Board). IsTrue (all_kept v)) (sym is) (all_are_kept t h.rests r.claims);
      same = record {
        present = ap (λ (v : Board). v.present) is ∙ h.present;
        version = ap (λ (v : Board). v.version) is ∙ h.version;
        rests = subst IsAtRest (sym is) h.rests;
        claims = omega (arith, h.claims, ap (λ (v : Board). v.next) is);
      };
    }

-- there was no memory
given_up : (s t u : Board) → IsSettledSoFar s t → IsOneGivenBack t u → IsWorkedOn s u
given_up s t u h r =
    let c : IsClaimed t r.ticket = is_claimed t r.ticket h.rests r.claims in
    let is : u ≡ with_kept t t.kept = r.is ∙ gives_back_to t h.rests r.ticket c in
    let next : u.next ≡ t.next + 1 = ap (λ (v : Board). v.next) is in
    record {
      calls = h.calls ++ (made claim (claimed r.ticket) ∷ made (give_back r.ticket) given_back ∷ []);
      are = works_more h.are (calls.Works.gave_back calls.Works.no_more);
      plays = plays_more s t u h.calls (made claim (claimed r.ticket) ∷ made (give_back r.ticket) given_back ∷ []) h.plays (tt, r.claims, (r.stands, refl, sym r.is));
      same = record {
        present = ap (λ (v : Board). v.present) is ∙ h.present;
        version = ap (λ (v : Board). v.version) is ∙ h.version;
        rests = record { unclosed = ap (λ (v : Board). v.closed) is ∙ (h.rests).unclosed; none_out = ap (λ (v : Board). v.out) is };
        claims = omega (arith, h.claims, next, one_waits t c.key c.first);
      };
    }

as_before : (s t : Board) → IsSettledSoFar s t → IsWorkedOn s t
as_before s t h = record {
  calls = h.calls ++ [];
  are = works_more h.are calls.Works.no_more;
  plays = plays_more s t t h.calls [] h.plays refl;
  same = record { present = h.present; version = h.version; rests = h.rests; claims = omega (arith, h.claims) };
}

pub fails : (s t u : Board) → IsSettledSoFar s t → IsGivenUp t u → IsWorkedOn s u
fails s t u h (inl same) = subst (IsWorkedOn s) (sym same) (as_before s t h)
fails s t u h (inr back) = given_up s t u h back

-- what is settled is worked on
settled_works : (s t : Board) → IsSettled s t → IsWorkedOn s t
settled_works s t h = record { calls = h.calls ++ []; are = works_more h.are calls.Works.no_more; plays = plays_more s t t h.calls [] h.plays refl; same = h.same }

-- as any session's work
pub settled_work : (s t : Board) → IsSettled s t → AreWork 0 s [] t []
settled_work s t h = worked_alone s t [] [] (settled_works s t h)
