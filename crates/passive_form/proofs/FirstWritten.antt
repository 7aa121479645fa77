-- First incarnations, written from the last pair to the first.
use Rattle.std.specs.Prelude.{◌≡◌, ℕ, ◌+◌, ◌-◌, ◌<◌, ◌≤◌, ◌≢◌, ◌⊎◌, nat_eq, Bool, true, false, cond, List, ◌∷◌, map, set, length, drop, find, Some, unwrap_or, option_map}
use Rattle.std.specs.List.{range_with_len}
use Rattle.std.proofs.Common.{arith, ap, ◌∙◌, sym, get_or}
use Rattle.std.proofs.lemmas.Bool.{cases_eq, ne_eqb, eq-eqb}
use Rattle.std.proofs.lemmas.List.{length-set, get_or-set_same, get_or-set_other, drop_more, drop_all, map-id}
use Rattle.std.proofs.lemmas.List.FromFn.{length-map-range_with_len, get_or-map-range_with_len, fill_by_all}
use mathlib.Core.Logic.{inl, inr}

-- a variable's first incarnation by these pairs of a global and its entry value
abbrev pub by_pairs : List (ℕ × ℕ) → ℕ → ℕ
by_pairs ps v = unwrap_or (option_map (λ p. p.0) (find (λ p. nat_eq v p.1) ps)) v

by_first : (p : ℕ × ℕ) (ps : List (ℕ × ℕ)) (v : ℕ) (same : Bool) → nat_eq v p.1 ≡ same → by_pairs (p ∷ ps) v ≡ cond same p.0 (by_pairs ps v)
by_first p ps v true e = ap (λ b. unwrap_or (option_map (λ (q : ℕ × ℕ). q.0) (cond b (Some p) (find (λ q. nat_eq v q.1) ps))) v) e
by_first p ps v false e = ap (λ b. unwrap_or (option_map (λ (q : ℕ × ℕ). q.0) (cond b (Some p) (find (λ q. nat_eq v q.1) ps))) v) e

written : (n : ℕ) (p : ℕ × ℕ) (ps : List (ℕ × ℕ)) → set (map (by_pairs ps) (range_with_len 0 n)) p.1 p.0 ≡ map (by_pairs (p ∷ ps)) (range_with_len 0 n)
written n p ps = fill_by_all (by_pairs (p ∷ ps)) (set numbers p.1 p.0) n 0 (length-set numbers p.1 p.0 ∙ length-map-range_with_len (by_pairs ps) 0 n) (λ v inside. at_case v inside (cases_eq v p.1))
  where
    numbers : List ℕ
    numbers = map (by_pairs ps) (range_with_len 0 n)

    at_case : (v : ℕ) → v < n → (v ≡ p.1) ⊎ (v ≢ p.1) → get_or (set numbers p.1 p.0) v 0 ≡ by_pairs (p ∷ ps) v
    at_case v inside (inl same) =
        let there : p.1 < length numbers = omega (arith, same, inside, length-map-range_with_len (by_pairs ps) 0 n) in
        ap (λ k. get_or (set numbers p.1 p.0) k 0) same ∙ get_or-set_same numbers p.1 p.0 0 there ∙ sym (by_first p ps v true (eq-eqb v p.1 same))
    at_case v inside (inr apart) =
        get_or-set_other numbers p.1 v p.0 0 apart ∙ get_or-map-range_with_len (by_pairs ps) 0 n v v 0 inside (omega arith) ∙ sym (by_first p ps v false (ne_eqb v p.1 apart))

-- one pair further to the front
pub written_before : (olds : List (ℕ × ℕ)) (i n : ℕ) (numbers : List ℕ) (d : ℕ × ℕ) → 0 < i → i ≤ length olds → numbers ≡ map (by_pairs (drop i olds)) (range_with_len 0 n)
    → set numbers (get_or olds (i - 1) d).1 (get_or olds (i - 1) d).0 ≡ map (by_pairs (drop (i - 1) olds)) (range_with_len 0 n)
written_before olds i n numbers d some within e =
    let j = i - 1 in
    let back : i ≡ j + 1 = omega arith in
    let there : j < length olds = omega arith in
    let p = get_or olds j d in
    ap (λ xs. set xs p.1 p.0) (e ∙ ap (λ k. map (by_pairs (drop k olds)) (range_with_len 0 n)) back)
    ∙ written n p (drop (j + 1) olds)
    ∙ ap (λ qs. map (by_pairs qs) (range_with_len 0 n)) (sym (drop_more olds j d there))

pub none_written : (olds : List (ℕ × ℕ)) (n : ℕ) → range_with_len 0 n ≡ map (by_pairs (drop (length olds) olds)) (range_with_len 0 n)
none_written olds n = sym (ap (λ qs. map (by_pairs qs) (range_with_len 0 n)) (drop_all (length olds) olds (omega arith)) ∙ map-id (range_with_len 0 n))
