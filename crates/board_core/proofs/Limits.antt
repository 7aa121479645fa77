-- Where the keys are within the limit, each answer stays.
use Rattle.std.specs.Prelude.{◌≡◌, refl, ℕ, ◌+◌, nat_lt, Bool, true, false, not, cond, List, [], ◌∷◌, length, filter}
use Rattle.std.specs.List.{sum_by}
use Rattle.std.proofs.Common.{ap, arith}
use Rattle.std.proofs.lemmas.Bool.{ltb-false, le-ltb}
use Rattle.std.proofs.lemmas.List.Sums.{sum_by-cons}
use Rattle.std.proofs.lemmas.List.Filters.{sum_by-filter_both}
use mathlib.Core.Path.{sym, ◌∙◌}
use Rattle.board_core.specs.Limits.{absent_limit}
use Rattle.bv_base.specs.Text.{is_among}
use Rattle.board_core.specs.Kept.{Key, key_bytes, absent_bytes, trimmed}
use Rattle.board_core.proofs.Entries.{shown}

fails_not : (b : Bool) → not b ≡ true → b ≡ false
fails_not true h = let c : false ≡ true = h in absurd cc
fails_not false h = refl

within : (limit whole part rest : ℕ) → nat_lt limit whole ≡ false → rest + part ≡ whole → nat_lt limit part ≡ false
within limit whole part rest h e = le-ltb limit part (omega (arith, ltb-false limit whole h, e))

-- no answer is dropped
pub all_stay : {A : Type 0} (present : List Key) (kept : List (Key × A)) → not (nat_lt absent_limit (key_bytes kept)) ≡ true → trimmed present kept ≡ kept
all_stay present kept h = ap (λ b. cond b (filter (λ e. is_among present e.0) kept) kept)
    (within absent_limit (key_bytes kept) (absent_bytes present kept) _ (fails_not _ h) (sum_by-filter_both (λ e. is_among present e.0) (λ e. not (is_among present e.0)) (λ e. refl) (λ e. length e.0) kept))

-- the sizes of the keys as a clause sees them
pub bytes_shown : {V W A : Type 0} (bytes : V → Key) (value : W → A) (es : List (V × W)) → sum_by (λ e. length (bytes e.0)) es ≡ key_bytes (shown bytes value es)
bytes_shown bytes value [] = refl
bytes_shown bytes value (e ∷ es) = sum_by-cons (λ d. length (bytes d.0)) e es ∙ ap (λ n. length (bytes e.0) + n) (bytes_shown bytes value es) ∙ sym (sum_by-cons (λ d. length d.0) (bytes e.0, value e.1) (shown bytes value es))
