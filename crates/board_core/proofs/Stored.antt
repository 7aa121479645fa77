-- What each call keeps of what a cache holds.
use Rattle.std.specs.Prelude.{◌≡◌, refl, ℕ, ◌+◌, ◌<◌, ◌≤◌, nat_lt, Bool, true, false, ◌||◌, not, cond, List, [], ◌∷◌, ◌++◌, map, length, filter, bytes_eq}
use Rattle.std.specs.List.{IsDistinct, AllByRecursion}
use Rattle.std.proofs.Common.{ap, arith, length-append}
use mathlib.Core.Path.{subst, sym, ◌∙◌}
use Rattle.board_core.specs.Limits.{absent_limit}
use Rattle.bv_base.specs.Text.{is_among}
use Rattle.board_core.specs.Kept.{Key, Cached, kept_keys, without_key, absent_bytes, trimmed}
use Rattle.board_core.specs.InsideCache.{IsStored}
use Rattle.board_core.proofs.Lists.{kept_by_filter, with_last, weaken, under_map, over_map, map-last, both, none_passes, passes_none, distinct_filter, distinct_last}
use Rattle.board_core.proofs.Keys.{same_key, turned}

-- a key that isn't among the kept isn't among fewer
pub among_fewer : {A : Type 0} (t : Key × A → Bool) (es : List (Key × A)) (k : Key) → is_among (kept_keys es) k ≡ false → is_among (kept_keys (filter t es)) k ≡ false
among_fewer t es k h = passes_none (bytes_eq k) (kept_keys (filter t es)) (over_map _ (λ e. e.0) (filter t es) (kept_by_filter _ t es (under_map _ (λ e. e.0) es (none_passes (bytes_eq k) (kept_keys es) h))))

-- nor among these and a key from which it differs
pub among_more : {A : Type 0} (es : List (Key × A)) (k j : Key) (a : A) → is_among (kept_keys es) k ≡ false → bytes_eq k j ≡ false → is_among (kept_keys (es ++ (j, a) ∷ [])) k ≡ false
among_more es k j a h d = subst (λ ks. is_among ks k ≡ false) (sym (map-last (λ e. e.0) es (j, a)))
    (passes_none (bytes_eq k) _ (with_last _ (kept_keys es) j (none_passes (bytes_eq k) (kept_keys es) h) d))

-- the keys that are left differ from the one that left
pub others_differ : (k : Key) (ks : List Key) → AllByRecursion (λ j. bytes_eq j k ≡ false) (without_key k ks)
others_differ k [] = tt
others_differ k (j ∷ ks) = by_test (bytes_eq k j) refl (others_differ k ks)
  where
    by_test : (b : Bool) → bytes_eq k j ≡ b → AllByRecursion (λ i. bytes_eq i k ≡ false) (without_key k ks) → AllByRecursion (λ i. bytes_eq i k ≡ false) (cond (not b) (j ∷ without_key k ks) (without_key k ks))
    by_test true e r = r
    by_test false e r = (turned k j e, r)

no_longer : (k : Key) (ks : List Key) → length (without_key k ks) ≤ length ks
no_longer k [] = omega arith
no_longer k (j ∷ ks) = by_test (bytes_eq k j) (no_longer k ks)
  where
    by_test : (b : Bool) → length (without_key k ks) ≤ length ks → length (cond (not b) (j ∷ without_key k ks) (without_key k ks)) ≤ length (j ∷ ks)
    by_test true r = omega arith
    by_test false r = omega arith

-- a key that was there makes the list shorter
shorter : (k : Key) (ks : List Key) → is_among ks k ≡ true → length (without_key k ks) < length ks
shorter k [] h = let c : false ≡ true = h in absurd cc
shorter k (j ∷ ks) h = by_test (bytes_eq k j) h (shorter k ks)
  where
    by_test : (b : Bool) → (b || is_among ks k) ≡ true → (is_among ks k ≡ true → length (without_key k ks) < length ks) → length (cond (not b) (j ∷ without_key k ks) (without_key k ks)) < length (j ∷ ks)
    by_test true e r = omega (arith, no_longer k ks)
    by_test false e r = omega (arith, r e)

-- a key whose place waits has no answer
pub waits_alone : {A : Type 0} (es : List (Key × A)) (ks : List Key) (k : Key) → AllByRecursion (λ j. is_among (kept_keys es) j ≡ false) ks → is_among ks k ≡ true → is_among (kept_keys es) k ≡ false
waits_alone es [] k h e = let c : false ≡ true = e in absurd cc
waits_alone es (j ∷ ks) k h e = by_test (bytes_eq k j) refl e (waits_alone es ks k h.1)
  where
    by_test : (b : Bool) → bytes_eq k j ≡ b → (b || is_among ks k) ≡ true → (is_among ks k ≡ true → is_among (kept_keys es) k ≡ false) → is_among (kept_keys es) k ≡ false
    by_test true t f r = subst (λ i. is_among (kept_keys es) i ≡ false) (sym (same_key k j t)) h.0
    by_test false t f r = r f

pub distinct_without : (k : Key) (ks : List Key) → IsDistinct bytes_eq ks → IsDistinct bytes_eq (without_key k ks)
unfolding IsDistinct
distinct_without k [] h = tt
distinct_without k (j ∷ ks) h = by_test (not (bytes_eq k j)) (kept_by_filter _ _ ks h.0) (distinct_without k ks h.1)
  where
    by_test : (b : Bool) → AllByRecursion (λ i. bytes_eq j i ≡ false) (without_key k ks) → IsDistinct bytes_eq (without_key k ks) → IsDistinct bytes_eq (cond b (j ∷ without_key k ks) (without_key k ks))
    by_test true f r = (f, r)
    by_test false f r = r

module _ {A : Type 0} (key_of : A → Key) (Right : A → Type 0) where
  pub nothing_stored : (n : ℕ) → IsStored key_of Right n (record { kept = []; places = [] })
  unfolding IsDistinct
  nothing_stored n = record { room = omega arith; apart = tt; waits = tt; right = tt }

  -- a place is made
  pub place_stored : (n m : ℕ) (c : Cached A) (k : Key) → IsStored key_of Right n c → is_among (kept_keys c.kept) k ≡ false → is_among c.places k ≡ false → length c.places + 1 ≤ m
      → IsStored key_of Right m (record c { places = c.places ++ k ∷ [] })
  place_stored n m c k h free alone room = record {
    room = omega (arith, length-append c.places (k ∷ []));
    apart = distinct_last bytes_eq c.places k h.apart (weaken _ _ c.places (λ j e. turned k j e) (none_passes (bytes_eq k) c.places alone));
    waits = with_last _ c.places k h.waits free;
    right = h.right;
  }

  -- a place is taken away
  pub unplace_stored : (n : ℕ) (c : Cached A) (k : Key) → IsStored key_of Right n c → IsStored key_of Right n (record c { places = without_key k c.places })
  unplace_stored n c k h = record {
    room = omega (arith, no_longer k c.places, h.room);
    apart = distinct_without k c.places h.apart;
    waits = kept_by_filter _ _ c.places h.waits;
    right = h.right;
  }

  -- an answer takes the place
  pub answer_stored : (n m : ℕ) (c : Cached A) (k : Key) (a : A) → IsStored key_of Right n c → is_among c.places k ≡ true → key_of a ≡ k → Right a → n ≤ m + 1
      → IsStored key_of Right m (record { kept = c.kept ++ (k, a) ∷ []; places = without_key k c.places })
  answer_stored n m c k a h there has right room =
      let less = unplace_stored n c k h in
      record {
        room = omega (arith, shorter k c.places there, h.room);
        apart = less.apart;
        waits = weaken _ _ (without_key k c.places) (λ j p. among_more c.kept j k a p.0 p.1) (both _ _ (without_key k c.places) less.waits (others_differ k c.places));
        right = with_last _ c.kept (k, a) h.right (has, right);
      }

  -- fewer answers are kept
  pub trimmed_stored : (n m : ℕ) (c : Cached A) (present : List Key) → IsStored key_of Right n c → n ≤ m → IsStored key_of Right m (record c { kept = trimmed present c.kept })
  trimmed_stored n m c present h room = by_test (nat_lt absent_limit (absent_bytes present c.kept))
    where
      by_test : (b : Bool) → IsStored key_of Right m (record c { kept = cond b (filter (λ e. is_among present e.0) c.kept) c.kept })
      by_test true = record {
        room = omega (arith, h.room);
        apart = h.apart;
        waits = weaken _ _ c.places (λ k e. among_fewer (λ e. is_among present e.0) c.kept k e) h.waits;
        right = kept_by_filter _ (λ e. is_among present e.0) c.kept h.right;
      }
      by_test false = record { room = omega (arith, h.room); apart = h.apart; waits = h.waits; right = h.right }
