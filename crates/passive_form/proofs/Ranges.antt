-- Ranges of numbers: what passes of one more at the end, and what is left after the first.
use Rattle.std.specs.Prelude.{◌≡◌, ℕ, suc, ◌+◌, ◌-◌, ◌<◌, Bool, true, false, cond, [], ◌∷◌, ◌++◌, filter}
use Rattle.std.specs.List.{range_with_len}
use Rattle.std.proofs.Common.{arith, ap, ◌∙◌, append-nil}
use Rattle.std.proofs.lemmas.List.{map-id}
use Rattle.std.proofs.lemmas.List.FromFn.{filter_of_map_range_with_len_more}
use mathlib.Core.Path.{sym}

filter_more : (p : ℕ → Bool) (n : ℕ) → filter p (range_with_len 0 (n + 1)) ≡ filter p (range_with_len 0 n) ++ cond (p n) (n ∷ []) []
filter_more p n =
    ap (filter p) (sym (map-id (range_with_len 0 (n + 1)))) ∙ filter_of_map_range_with_len_more p (λ x. x) 0 n n (omega arith)
    ∙ ap (λ xs. filter p xs ++ cond (p n) (n ∷ []) []) (map-id (range_with_len 0 n))

pub passes : (p : ℕ → Bool) (n : ℕ) → p n ≡ true → filter p (range_with_len 0 (n + 1)) ≡ filter p (range_with_len 0 n) ++ n ∷ []
passes p n e = filter_more p n ∙ ap (λ b. filter p (range_with_len 0 n) ++ cond b (n ∷ []) []) e

pub falls_out : (p : ℕ → Bool) (n : ℕ) → p n ≡ false → filter p (range_with_len 0 (n + 1)) ≡ filter p (range_with_len 0 n)
falls_out p n e = filter_more p n ∙ ap (λ b. filter p (range_with_len 0 n) ++ cond b (n ∷ []) []) e ∙ append-nil (filter p (range_with_len 0 n))

pub range_first : (a n : ℕ) → a < n → range_with_len a (n - a) ≡ a ∷ range_with_len (a + 1) (n - (a + 1))
range_first a n h = let e : n - a ≡ suc (n - (a + 1)) = omega (h, arith) in ap (range_with_len a) e
