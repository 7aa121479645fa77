-- Rows of predecessors, one for each block: what noting the edges of one more block makes of them.
use Rattle.std.specs.Prelude.{◌≡◌, refl, ℕ, ◌+◌, ◌-◌, ◌<◌, ◌≤◌, ◌≢◌, ◌==◌, Bool, true, false, ◌||◌, cond, List, [], ◌∷◌, ◌++◌, map, set, length, slice_get, take, Some, All, ◌⊎◌}
use Rattle.std.specs.List.{list_any, range_with_len}
use Rattle.std.proofs.Common.{arith, ap, ◌∙◌, sym, subst, get_or}
use Rattle.std.proofs.lemmas.List.{append-nil, length_push, get_or_push, length-set, get_or-set_same, get_or-set_other}
use Rattle.std.proofs.lemmas.Bool.{cases_eq, or_right, ne_eqb, eq-eqb}
use Rattle.std.proofs.lemmas.List.Folds.{list_any_more}
use Rattle.std.proofs.lemmas.List.Elements.{All-filter, All-get_or}
use Rattle.std.proofs.lemmas.List.FromFn.{length-range_with_len, get_or-range_with_len, fill_by_all, get_or-map-range_with_len, length-map-range_with_len}
use Rattle.std.proofs.lemmas.Option.{slice_get_within, slice_get-get_or, get_or_from_slice_get}
use mathlib.Core.Logic.{inl, inr}
use Rattle.flow_core.specs.declared.block.Block.{Block}
use Rattle.flow_core.specs.Graph.{block_at}
use Rattle.passive_form.specs.Incarnations.{has_edge, numbers, predecessors_below}
use Rattle.passive_form.proofs.Ranges.{passes, falls_out}

below_range : (n : ℕ) → All (λ m. m < n) (range_with_len 0 n)
below_range n k d h =
    let short : k < n = omega (arith, h, length-range_with_len 0 n) in
    let e = get_or-range_with_len 0 n k d short in
    omega (arith, e, short)

-- the predecessors below a block are below it
pub are_below : (blocks : List Block) (n b : ℕ) → All (λ m. m < n) (predecessors_below blocks n b)
are_below blocks n b = All-filter (λ p. has_edge blocks p b) (λ m. m < n) (range_with_len 0 n) (below_range n)

none_last : (n : ℕ) (above : List ℕ) → All (λ m. m < n) above → slice_get above (length above - 1) ≡ Some n → ⊥
none_last n above below h =
    let i = length above - 1 in
    let there = slice_get_within above i n h in
    let low = All-get_or (λ m. m < n) above i n there below in
    omega (arith, low, get_or_from_slice_get above i n n h)

-- a number above all others, which is the last or not there, is the last afterwards
pub kept_once : (n : ℕ) (row above : List ℕ) (noted : Bool) → All (λ m. m < n) above → row ≡ above ++ cond noted (n ∷ []) [] → slice_get row (length row - 1) ≡ Some n → row ≡ above ++ n ∷ []
kept_once n row above true below e h = e
kept_once n row above false below e h = absurd (none_last n above below (subst (λ r. slice_get r (length r - 1) ≡ Some n) (e ∙ append-nil above) h))

pub added_once : (n : ℕ) (row above : List ℕ) (noted : Bool) → row ≡ above ++ cond noted (n ∷ []) [] → (slice_get row (length row - 1) ≡ Some n → ⊥) → row ++ n ∷ [] ≡ above ++ n ∷ []
added_once n row above false e h = ap (λ r. r ++ n ∷ []) (e ∙ append-nil above)
added_once n row above true e h = absurd (h (subst (λ r. slice_get r (length r - 1) ≡ Some n) (sym e) (last_is (length (above ++ n ∷ []) - 1) (omega (arith, length_push above n)))))
  where
    last_is : (i : ℕ) → length above ≡ i → slice_get (above ++ n ∷ []) i ≡ Some n
    last_is i h = slice_get-get_or (above ++ n ∷ []) i n (omega (arith, length_push above n, h)) ∙ ap Some (get_or_push above n n i h)

-- the rows of all blocks where of block p's edges the first have been noted
pub record AreNoted (blocks : List Block) (p : ℕ) (noted : List ℕ) (rows : List (List ℕ)) : Type 0 where
  pub all : length rows ≡ length blocks
  pub each : (b : ℕ) → b < length blocks → get_or rows b [] ≡ predecessors_below blocks p b ++ cond (list_any (λ c. c == b) noted) (p ∷ []) []

pub none_noted : (blocks : List Block) (p : ℕ) (rows : List (List ℕ)) → rows ≡ map (predecessors_below blocks p) (numbers blocks) → AreNoted blocks p [] rows
none_noted blocks p rows e = record {
  all = ap length e ∙ length-map-range_with_len (predecessors_below blocks p) 0 (length blocks);
  each = λ b h. ap (λ r. get_or r b []) e ∙ get_or-map-range_with_len (predecessors_below blocks p) 0 (length blocks) b b [] h (omega arith) ∙ sym (append-nil (predecessors_below blocks p b));
}

-- with all its edges noted, block p is among the predecessors
pub all_noted : (blocks : List Block) (p : ℕ) (rows : List (List ℕ)) → AreNoted blocks p (block_at blocks p).next rows → rows ≡ map (predecessors_below blocks (p + 1)) (numbers blocks)
all_noted blocks p rows h = fill_by_all (predecessors_below blocks (p + 1)) rows (length blocks) [] h.all (λ b there. h.each b there ∙ one_more b (has_edge blocks p b) refl)
  where
    one_more : (b : ℕ) (edge : Bool) → has_edge blocks p b ≡ edge → predecessors_below blocks p b ++ cond edge (p ∷ []) [] ≡ predecessors_below blocks (p + 1) b
    one_more b true e = sym (passes (λ q. has_edge blocks q b) p e)
    one_more b false e = append-nil (predecessors_below blocks p b) ∙ sym (falls_out (λ q. has_edge blocks q b) p e)

-- the first of block p's edges that are noted, and one more
record IsOneMore (noted : List ℕ) (c : ℕ) (more : List ℕ) : Type 0 where
  is : (b : ℕ) → list_any (λ d. d == b) more ≡ (list_any (λ d. d == b) noted || (c == b))

one_more_taken : (next : List ℕ) (i c : ℕ) → i < length next → c ≡ get_or next i c → IsOneMore (take i next) c (take (i + 1) next)
one_more_taken next i c h e = record { is = λ b. list_any_more (λ d. d == b) next i c h ∙ ap (λ v. list_any (λ d. d == b) (take i next) || (v == b)) (sym e) }

other : (x : Bool) (c b : ℕ) → b ≢ c → (x || (c == b)) ≡ x
other true c b h = refl
other false c b h = ne_eqb c b (λ e. h (sym e))

pub noted_there : (blocks : List Block) (p : ℕ) (next : List ℕ) (i c : ℕ) (rows : List (List ℕ)) (row : List ℕ)
    → i < length next → c ≡ get_or next i c → c < length rows → AreNoted blocks p (take i next) rows → row ≡ predecessors_below blocks p c ++ p ∷ []
    → AreNoted blocks p (take (i + 1) next) (set rows c row)
noted_there blocks p next i c rows row h e there r is = record {
  all = length-set rows c row ∙ r.all;
  each = λ b inside. at_case b inside (cases_eq b c);
}
  where
    more : IsOneMore (take i next) c (take (i + 1) next)
    more = one_more_taken next i c h e

    ends : ℕ → Bool → List ℕ
    ends b edge = predecessors_below blocks p b ++ cond edge (p ∷ []) []

    at_case : (b : ℕ) → b < length blocks → (b ≡ c) ⊎ (b ≢ c) → get_or (set rows c row) b [] ≡ ends b (list_any (λ d. d == b) (take (i + 1) next))
    at_case b inside (inl same) =
        let now : list_any (λ d. d == b) (take (i + 1) next) ≡ true = more.is b ∙ or_right (list_any (λ d. d == b) (take i next)) (c == b) (eq-eqb c b (sym same)) in
        ap (λ n. get_or (set rows c row) n []) same ∙ get_or-set_same rows c row [] there ∙ is ∙ ap (λ n. ends n true) (sym same) ∙ ap (ends b) (sym now)
    at_case b inside (inr apart) =
        get_or-set_other rows c b row [] apart ∙ r.each b inside ∙ ap (ends b) (sym (more.is b ∙ other (list_any (λ d. d == b) (take i next)) c b apart))

pub noted_outside : (blocks : List Block) (p : ℕ) (next : List ℕ) (i c : ℕ) (rows : List (List ℕ))
    → i < length next → c ≡ get_or next i c → length rows ≤ c → AreNoted blocks p (take i next) rows → AreNoted blocks p (take (i + 1) next) rows
noted_outside blocks p next i c rows h e outside r = record {
  all = r.all;
  each = λ b inside.
      let apart : b ≢ c = λ same. absurd (omega (arith, same, r.all, outside, inside)) in
      r.each b inside ∙ ap (λ edge. predecessors_below blocks p b ++ cond edge (p ∷ []) []) (sym ((one_more_taken next i c h e).is b ∙ other (list_any (λ d. d == b) (take i next)) c b apart));
}
