-- The answers of absent keys: their keys' sizes, and what is left without them.
use Rattle.std.specs.Prelude.{◌≡◌, refl, ℕ, ◌+◌, ◌<◌, ◌≤◌, min, nat_lt, Bool, true, false, not, cond, List, [], ◌∷◌, map, length, filter, bytes_eq}
use Rattle.std.specs.List.{sum_by}
use Rattle.std.specs.Borrow.{Bor}
use Rattle.std.proofs.Common.{ap, arith}
use Rattle.std.proofs.lemmas.List.Sums.{sum_by-cons}
use mathlib.Core.Path.{subst, sym, ◌∙◌}
use Rattle.board_core.specs.Limits.{absent_limit}
use Rattle.bv_base.specs.Text.{is_among}
use Rattle.board_core.specs.Kept.{Key, Cached, absent_bytes, trimmed}
use Rattle.board_core.specs.InsideCache.{IsStored}
use Rattle.board_core.specs.Present.{is_present, absent_size}
use Rattle.board_core.proofs.Entries.{shown}
use Rattle.board_core.proofs.Held.{held}
use Rattle.board_core.proofs.Stored.{trimmed_stored}

module _ {V W : Type 0} (bytes : V → Key) (ks : List (Bor Key)) (v : V) (w : W) (es : List (V × W)) where
  pub absent_next : is_present ks (bytes v) ≡ false → absent_size bytes ks ((v, w) ∷ es) ≡ length (bytes v) + absent_size bytes ks es
  absent_next h = ap (λ b. sum_by (λ e. length (bytes e.0)) (cond (not b) ((v, w) ∷ filter (λ e. not (is_present ks (bytes e.0))) es) (filter (λ e. not (is_present ks (bytes e.0))) es))) h ∙ sum_by-cons (λ e. length (bytes e.0)) (v, w) (filter (λ e. not (is_present ks (bytes e.0))) es)

  pub present_next : is_present ks (bytes v) ≡ true → absent_size bytes ks ((v, w) ∷ es) ≡ absent_size bytes ks es
  present_next h = ap (λ b. sum_by (λ e. length (bytes e.0)) (cond (not b) ((v, w) ∷ filter (λ e. not (is_present ks (bytes e.0))) es) (filter (λ e. not (is_present ks (bytes e.0))) es))) h

-- a size that is counted up to a cap
pub counted_up : (cap size n rest whole next : ℕ) → min (size + (n + rest)) cap ≡ whole → next ≡ min (size + n) cap → (min (next + rest) cap ≡ whole) × (next ≤ cap)
counted_up cap size n rest whole next h e = (omega (arith, h, e), omega (arith, e))

module _ {V W A : Type 0} (bytes : V → Key) (value : W → A) (ks : List (Bor Key)) (present : List Key) (same : (k : Key) → is_present ks k ≡ is_among present k) where
  pub size_same : (es : List (V × W)) → absent_size bytes ks es ≡ absent_bytes present (shown bytes value es)
  size_same [] = refl
  size_same (e ∷ es) =
      ap (λ b. sum_by (λ d. length (bytes d.0)) (cond (not b) (e ∷ filter (λ d. not (is_present ks (bytes d.0))) es) (filter (λ d. not (is_present ks (bytes d.0))) es))) (same (bytes e.0))
      ∙ by_test (is_among present (bytes e.0)) (size_same es)
    where
      by_test : (b : Bool) → absent_size bytes ks es ≡ absent_bytes present (shown bytes value es)
          → sum_by (λ d. length (bytes d.0)) (cond (not b) (e ∷ filter (λ d. not (is_present ks (bytes d.0))) es) (filter (λ d. not (is_present ks (bytes d.0))) es))
          ≡ sum_by (λ d. length d.0) (cond (not b) ((bytes e.0, value e.1) ∷ filter (λ d. not (is_among present d.0)) (shown bytes value es)) (filter (λ d. not (is_among present d.0)) (shown bytes value es)))
      by_test true r = r
      by_test false r = sum_by-cons (λ d. length (bytes d.0)) e (filter (λ d. not (is_present ks (bytes d.0))) es) ∙ ap (λ n. length (bytes e.0) + n) r ∙ sym (sum_by-cons (λ d. length d.0) (bytes e.0, value e.1) (filter (λ d. not (is_among present d.0)) (shown bytes value es)))

  pub shown_filter : (es : List (V × W)) → shown bytes value (filter (λ e. is_present ks (bytes e.0)) es) ≡ filter (λ e. is_among present e.0) (shown bytes value es)
  shown_filter [] = refl
  shown_filter (e ∷ es) =
      ap (λ b. shown bytes value (cond b (e ∷ filter (λ d. is_present ks (bytes d.0)) es) (filter (λ d. is_present ks (bytes d.0)) es))) (same (bytes e.0))
      ∙ by_test (is_among present (bytes e.0)) (shown_filter es)
    where
      by_test : (b : Bool) → shown bytes value (filter (λ d. is_present ks (bytes d.0)) es) ≡ filter (λ d. is_among present d.0) (shown bytes value es)
          → shown bytes value (cond b (e ∷ filter (λ d. is_present ks (bytes d.0)) es) (filter (λ d. is_present ks (bytes d.0)) es))
          ≡ cond b ((bytes e.0, value e.1) ∷ filter (λ d. is_among present d.0) (shown bytes value es)) (filter (λ d. is_among present d.0) (shown bytes value es))
      by_test true r = ap (λ l. (bytes e.0, value e.1) ∷ l) r
      by_test false r = r

  -- what trimming leaves of the entries is what it leaves of the answers
  pub trimmed_shown : (es fs : List (V × W)) → fs ≡ cond (nat_lt absent_limit (absent_size bytes ks es)) (filter (λ e. is_present ks (bytes e.0)) es) es → shown bytes value fs ≡ trimmed present (shown bytes value es)
  trimmed_shown es fs left =
      ap (shown bytes value) left ∙ by_test (nat_lt absent_limit (absent_size bytes ks es)) ∙ ap (λ n. cond (nat_lt absent_limit n) (filter (λ e. is_among present e.0) (shown bytes value es)) (shown bytes value es)) (size_same es)
    where
      by_test : (b : Bool) → shown bytes value (cond b (filter (λ e. is_present ks (bytes e.0)) es) es) ≡ cond b (filter (λ e. is_among present e.0) (shown bytes value es)) (shown bytes value es)
      by_test true = shown_filter es
      by_test false = refl

  pub trimmed_held : (key_of : A → Key) (Right : A → Type 0) (n m : ℕ) (es fs : List (V × W)) (vs : List V) → IsStored key_of Right n (held bytes value es vs) → n ≤ m
      → fs ≡ cond (nat_lt absent_limit (absent_size bytes ks es)) (filter (λ e. is_present ks (bytes e.0)) es) es → IsStored key_of Right m (held bytes value fs vs)
  trimmed_held key_of Right n m es fs vs h room left =
      subst (IsStored key_of Right m) (sym (λ i. record { kept = trimmed_shown es fs left i; places = map bytes vs })) (trimmed_stored key_of Right n m (held bytes value es vs) present h room)
