-- What the calls of a round say of it, and of the loop.
use Rattle.std.proofs.Common.{◌≡◌, ap, subst, arith, ℕ, ◌+◌, ◌-◌, ◌^◌, ◌<◌, Bool, true, false, cond, length, Contains, inl, inr}
use Rattle.obligation_text.specs.Asked.{Asked, key_of}
use Rattle.tableau.specs.Settled.{Settled, IsRight, settled_by}
use Rattle.board_core.specs.Board.{Ticket, claim, deposit, give_back, claimed, was_empty, was_closed, deposited}
use Rattle.board_core.specs.Step.{step, Steps}
use Rattle.goal_board.specs.Calls.{Board}
use Rattle.goal_board.specs.Rests.{IsAtRest, IsSettled, IsWorkedOn}
use Rattle.own_goals.specs.Rounds.{IsDeposited, IsOneSettled, IsNext, IsGivenUp}
use Rattle.own_goals.specs.SoFar.{pending, IsLoop}
use Rattle.own_goals.proofs.Claims.{never_closed, none_over}
use Rattle.own_goals.proofs.Rounds.{one_more, falls, ends, fails}

abbrev pub of_question : ℕ → Asked → Ticket
of_question n q = record { number = n; key = key_of q }

-- ---- one round

pub is_deposited : (s t : Board) (number : ℕ) (q : Asked) (a : Settled) (n : ℕ) → Contains s.out (of_question number q) → a ≡ settled_by q → IsRight a
    → Steps s (deposit (of_question number q) a) t (deposited n) → IsDeposited (of_question number q) s t
is_deposited s t number q a n out is right goes = record { answer = a; stands = (out, ap (λ (b : Settled). key_of b.question) is, right); is = goes.0 }

next_settled : (s m t : Board) (c : Ticket) → Steps s claim m (claimed c) → IsDeposited c m t → IsOneSettled s t
next_settled s m t c goes d =
    let h : IsDeposited c (step s claim) t = subst (λ (v : Board). IsDeposited c v t) goes.0 d in
    record { ticket = c; answer = h.answer; claims = goes.1; stands = h.stands; is = h.is }

pub settled_next : (s m t : Board) (c : Ticket) (more : Bool) → Steps s claim m (claimed c) → (more ≡ true) × IsDeposited c m t → IsNext more s t
settled_next s m t c true goes d = next_settled s m t c goes d.1
settled_next s m t c false goes d = absurd (let e = d.0 in cc)

pub empty_next : (s t : Board) → Steps s claim t was_empty → IsNext false s t
empty_next s t goes = record { claims = goes.1; is = goes.0 }

pub closed_next : (s t : Board) → IsAtRest s → Steps s claim t was_closed → IsNext false s t
closed_next s t rest goes = absurd (never_closed s rest goes.1)

pub given_back_up : (s m t : Board) (c : Ticket) → Steps s claim m (claimed c) → Contains m.out c → t ≡ step m (give_back c) → IsGivenUp s t
given_back_up s m t c goes out is =
    inr (record { ticket = c; claims = goes.1; stands = subst (λ (v : Board). Contains v.out c) goes.0 out; is = subst (λ (v : Board). t ≡ step v (give_back c)) goes.0 is })

pub nothing_up : (s t : Board) → t ≡ s → IsGivenUp s t
nothing_up s t same = inl same

-- ---- the loop

pub next_loop : (before after : Bool) (s t u : Board) → before ≡ true → IsLoop before s t → IsNext after t u → IsLoop after s u
next_loop false after s t u e h r = absurd (cc)
next_loop true true s t u e h r = one_more s t u h r
next_loop true false s t u e h r = ends s t u h r

pub next_falls : (before after : Bool) (s t u : Board) → before ≡ true → IsLoop before s t → IsNext after t u → cond after (pending u + 1) 0 < cond before (pending t + 1) 0
next_falls false after s t u e h r = absurd (cc)
next_falls true true s t u e h r = omega (arith, falls t u h.rests r)
next_falls true false s t u e h r = omega arith

pub room_left : (more : Bool) (s t : Board) → more ≡ true → IsLoop more s t → s.next + length s.present < 2 ^ 64 - 1 → t.next < 2 ^ 64 - 1
room_left false s t e h room = absurd (cc)
room_left true s t e h room = omega (arith, room, h.claims, none_over s)

pub rests_still : (more : Bool) (s t : Board) → more ≡ true → IsLoop more s t → IsAtRest t
rests_still false s t e h = absurd (cc)
rests_still true s t e h = h.rests

pub ends_loop : (more : Bool) (s t : Board) → more ≡ false → IsLoop more s t → IsSettled s t
ends_loop true s t e h = absurd (cc)
ends_loop false s t e h = h

pub fails_loop : (more : Bool) (s t u : Board) → more ≡ true → IsLoop more s t → IsGivenUp t u → IsWorkedOn s u
fails_loop false s t u e h r = absurd (cc)
fails_loop true s t u e h r = fails s t u h r
