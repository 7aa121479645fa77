-- What a claim on a board at rest gives, and what is left after it.
use Rattle.std.proofs.Common.{◌≡◌, ◌∙◌, refl, sym, ap, subst, arith, ℕ, ◌+◌, ◌-◌, ◌≤◌, Bool, true, false, ◌||◌, ◌&&◌, not, cond, IsTrue, List, [], ◌∷◌, ◌++◌, length, find, Option, Some, None, bytes_eq, count_by}
use Rattle.std.specs.List.{list_all}
use Rattle.std.proofs.lemmas.Bool.{eq-eqb}
use Rattle.std.proofs.lemmas.List.Sums.{count_by-le-length}
use Rattle.tableau.specs.Settled.{Settled}
use Rattle.bv_base.specs.Text.{is_among}
use Rattle.board_core.specs.Kept.{Key, kept_keys, with_answer}
use Rattle.board_core.proofs.Keys.{key_itself}
use Rattle.board_core.proofs.Lists.{map-last, found_passes}
use Rattle.board_core.specs.Board.{Ticket, claim, deposit, give_back, claimed, was_empty, was_closed}
use Rattle.board_core.specs.Step.{step, reply, wanted, with_claim, claim_reply, without, is_taken, done_of, out_keys}
use Rattle.board_core.proofs.Passing.{done_more, count_cons}
use Rattle.goal_board.specs.Calls.{Board, all_kept}
use Rattle.goal_board.specs.Rests.{IsAtRest}
use Rattle.own_goals.specs.SoFar.{pending}

-- ---- what is claimed

unclosed_reply : (s : Board) → s.closed ≡ false → reply s claim ≡ claim_reply s (wanted s)
unclosed_reply s h = ap (λ b. cond b was_closed (claim_reply s (wanted s))) h

unclosed_step : (s : Board) → s.closed ≡ false → step s claim ≡ with_claim s (wanted s)
unclosed_step s h = ap (λ b. cond b s (with_claim s (wanted s))) h

abbrev next_ticket : Board → Key → Ticket
next_ticket s k = record { number = s.next; key = k }

-- the first present key neither kept nor out, as a claim with the next number
pub record IsClaimed (s : Board) (c : Ticket) : Type 0 where
  pub key : Key
  pub first : wanted s ≡ Some key
  pub ticket : c ≡ next_ticket s key

claimed_by : (s : Board) (c : Ticket) (o : Option Key) → wanted s ≡ o → claimed c ≡ claim_reply s o → IsClaimed s c
claimed_by s c None w e = absurd (cc)
claimed_by s c (Some k) w e = record { key = k; first = w; ticket = cc }

pub is_claimed : (s : Board) (c : Ticket) → IsAtRest s → claimed c ≡ reply s claim → IsClaimed s c
is_claimed s c rest e = claimed_by s c (wanted s) refl (e ∙ unclosed_reply s rest.unclosed)

-- a board that isn't closed doesn't say that it is
none_closed : (s : Board) (o : Option Key) → was_closed ≡ claim_reply s o → ⊥
none_closed s None e = cc
none_closed s (Some k) e = cc

pub never_closed : (s : Board) → IsAtRest s → was_closed ≡ reply s claim → ⊥
never_closed s rest e = none_closed s (wanted s) (e ∙ unclosed_reply s rest.unclosed)

none_by : (s : Board) (o : Option Key) → was_empty ≡ claim_reply s o → o ≡ None
none_by s None e = refl
none_by s (Some k) e = absurd (cc)

none_wanted : (s : Board) → IsAtRest s → was_empty ≡ reply s claim → wanted s ≡ None
none_wanted s rest e = none_by s (wanted s) (e ∙ unclosed_reply s rest.unclosed)

-- ---- the board after it

-- one claim more was made, and it isn't out
abbrev pub with_kept : Board → List (Key × Settled) → Board
with_kept s kept = record s { kept = kept; out = []; next = s.next + 1 }

spent : (n : ℕ) (k : Key) (os : List Ticket) → os ≡ [] → without n (os ++ record { number = n; key = k } ∷ []) ≡ []
spent n k os none =
    ap (λ ts. without n (ts ++ record { number = n; key = k } ∷ [])) none
    ∙ ap (λ b. cond (not b) (record { number = n; key = k } ∷ []) []) (eq-eqb n n refl)

module _ (s : Board) (rest : IsAtRest s) (c : Ticket) (is : IsClaimed s c) where
  claims_to : step s claim ≡ with_claim s (Some is.key)
  claims_to = unclosed_step s rest.unclosed ∙ ap (with_claim s) is.first

  pub deposits_to : (a : Settled) → step (step s claim) (deposit c a) ≡ with_kept s (with_answer s.kept is.key a)
  deposits_to a =
      (λ i. step (claims_to i) (deposit (is.ticket i) a))
      ∙ ap (λ ts. record s { kept = with_answer s.kept is.key a; out = ts; next = s.next + 1 }) (spent s.next is.key s.out rest.none_out)

  pub gives_back_to : step (step s claim) (give_back c) ≡ with_kept s s.kept
  gives_back_to =
      (λ i. step (claims_to i) (give_back (is.ticket i)))
      ∙ ap (λ ts. record s { out = ts; next = s.next + 1 }) (spent s.next is.key s.out rest.none_out)

-- ---- how many goals wait

neither : (a b : Bool) → not (a || b) ≡ true → a ≡ false
neither true b h = absurd (cc)
neither false b h = refl

abbrev one_if : Bool → ℕ
one_if b = cond b 1 0

counted_once : (p : Key → Bool) (ks : List Key) (k : Key) → find p ks ≡ Some k → 1 ≤ count_by (bytes_eq k) ks
counted_once p [] k h = absurd (cc)
counted_once p (j ∷ ks) k h = by_test (p j) (λ e. counted_once p ks k e) h
  where
    by_test : (b : Bool) → (find p ks ≡ Some k → 1 ≤ count_by (bytes_eq k) ks) → cond b (Some j) (find p ks) ≡ Some k → 1 ≤ count_by (bytes_eq k) (j ∷ ks)
    by_test true rest e =
        let same : j ≡ k = cc in
        let one : one_if (bytes_eq k j) ≡ 1 = ap (λ x. one_if (bytes_eq k x)) same ∙ ap one_if (key_itself k) in
        omega (arith, count_cons (bytes_eq k) j ks, one)
    by_test false rest e = omega (arith, count_cons (bytes_eq k) j ks, rest e)

free : (s : Board) (k : Key) → wanted s ≡ Some k → is_among (kept_keys s.kept) k ≡ false
free s k w = neither _ _ (found_passes (λ j. not (is_taken s j)) s.present k w)

-- with an answer of the key
done_then : (s : Board) (k : Key) (a : Settled) → wanted s ≡ Some k → done_of s.present (with_answer s.kept k a) ≡ done_of s.present s.kept + count_by (bytes_eq k) s.present
done_then s k a w =
    ap (λ b. done_of s.present (cond b s.kept (s.kept ++ (k, a) ∷ []))) (free s k w)
    ∙ ap (λ ks. count_by (is_among ks) s.present) (map-last (λ (e : Key × Settled). e.0) s.kept (k, a))
    ∙ done_more (kept_keys s.kept) k s.present (free s k w)

pub fewer_wait : (s : Board) (k : Key) (a : Settled) → wanted s ≡ Some k → length s.present - done_of s.present (with_answer s.kept k a) + 1 ≤ pending s
fewer_wait s k a w =
    let once = counted_once (λ j. not (is_taken s j)) s.present k w in
    let within = count_by-le-length (is_among (kept_keys (with_answer s.kept k a))) s.present in
    omega (arith, once, within, done_then s k a w)

pub one_waits : (s : Board) (k : Key) → wanted s ≡ Some k → 1 ≤ pending s
one_waits s k w =
    let once = counted_once (λ j. not (is_taken s j)) s.present k w in
    let within = count_by-le-length (is_among (kept_keys s.kept ++ k ∷ [])) s.present in
    omega (arith, once, within, done_more (kept_keys s.kept) k s.present (free s k w))

pub none_over : (s : Board) → pending s ≤ length s.present
none_over s = omega arith

-- ---- none is left

all_in : (keys : List Key) (ks : List Key) → find (λ k. not (is_among keys k || is_among [] k)) ks ≡ None → IsTrue (list_all (is_among keys) ks)
all_in keys [] h = refl
all_in keys (k ∷ ks) h = by_test (is_among keys k) refl (λ e. all_in keys ks e) h
  where
    by_test : (b : Bool) → is_among keys k ≡ b → (find (λ j. not (is_among keys j || is_among [] j)) ks ≡ None → IsTrue (list_all (is_among keys) ks)) → cond (not (b || false)) (Some k) (find (λ j. not (is_among keys j || is_among [] j)) ks) ≡ None → IsTrue (list_all (is_among keys) (k ∷ ks))
    by_test true e rest f = subst IsTrue (ap (λ b. b && list_all (is_among keys) ks) (sym e)) (rest f)
    by_test false e rest f = absurd (cc)

pub all_are_kept : (s : Board) → IsAtRest s → was_empty ≡ reply s claim → IsTrue (all_kept s)
all_are_kept s rest e = all_in (kept_keys s.kept) s.present (ap (λ os. find (λ k. not (is_among (kept_keys s.kept) k || is_among (out_keys os) k)) s.present) (sym rest.none_out) ∙ none_wanted s rest e)

pub stays : (s : Board) → IsAtRest s → was_empty ≡ reply s claim → step s claim ≡ s
stays s rest e = unclosed_step s rest.unclosed ∙ ap (with_claim s) (none_wanted s rest e)
