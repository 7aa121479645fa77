-- A key in a list of keys: where it stands, and the list without it.
use Rattle.std.specs.Prelude.{◌≡◌, refl, ℕ, zero, suc, ◌+◌, ◌<◌, ◌≤◌, nat_lt, Bool, true, false, ◌||◌, not, cond, List, [], ◌∷◌, ◌++◌, map, length, filter, position, remove, take, drop, Option, Some, None, is_some, bytes_eq}
use Rattle.std.specs.List.{list_any, IsDistinct, AllByRecursion, position_or_len}
use Rattle.std.proofs.Common.{ap, arith, get_or}
use Rattle.std.proofs.lemmas.Grind.{common_steps}
use Rattle.std.proofs.lemmas.Cmp.{nat_list_eq_equiv}
use Rattle.std.proofs.lemmas.Slice.Eq.{bytes_eq-Decides}
use Rattle.std.proofs.lemmas.List.Quantifiers.{position-Some}
use mathlib.Core.Path.{subst, sym, ◌∙◌}
use Rattle.bv_base.specs.Text.{is_among}
use Rattle.board_core.specs.Kept.{Key, without_key}
use Rattle.board_core.proofs.Lists.{none_passes, passes_none, weaken, over_map, under_map}

pub same_key : (k j : Key) → bytes_eq k j ≡ true → k ≡ j
same_key k j h = (bytes_eq-Decides k j).0 h

pub key_itself : (k : Key) → bytes_eq k k ≡ true
key_itself k = nat_list_eq_equiv.refl k

pub turned : (k j : Key) → bytes_eq k j ≡ false → bytes_eq j k ≡ false
turned k j h = nat_list_eq_equiv.symm j k ∙ h

-- no key is taken out where it isn't there
pub without_absent : (k : Key) (ks : List Key) → is_among ks k ≡ false → without_key k ks ≡ ks
without_absent k [] h = refl
without_absent k (j ∷ ks) h = by_test (without_absent k ks) (bytes_eq k j) h
  where
    by_test : (is_among ks k ≡ false → without_key k ks ≡ ks) → (b : Bool) → (b || is_among ks k) ≡ false → cond (not b) (j ∷ without_key k ks) (without_key k ks) ≡ j ∷ ks
    by_test rest true e = let c : true ≡ false = e in absurd cc
    by_test rest false e = ap (λ xs. j ∷ xs) (rest e)

-- a key that differs from all the others is among none of them
pub apart_absent : (k : Key) (ks : List Key) → AllByRecursion (λ j. bytes_eq k j ≡ false) ks → is_among ks k ≡ false
apart_absent k ks h = passes_none (bytes_eq k) ks h

module _ {V : Type 0} (bytes : V → Key) (k : Key) where
  abbrev spot : V → Bool
  spot v = bytes_eq k (bytes v)

  none_from_end : (vs : List V) → length vs ≤ position_or_len spot vs → is_among (map bytes vs) k ≡ false
  none_from_end [] h = refl
  none_from_end (v ∷ vs) h = by_test (none_from_end vs) (bytes_eq k (bytes v)) h
    where
      by_test : (length vs ≤ position_or_len spot vs → is_among (map bytes vs) k ≡ false) → (b : Bool) → length (v ∷ vs) ≤ cond (not b) (1 + position_or_len spot vs) 0 → (b || is_among (map bytes vs) k) ≡ false
      by_test rest true e = absurd (omega arith)
      by_test rest false e = rest (omega arith)

  pub nowhere : (vs : List V) → position spot vs ≡ None → is_among (map bytes vs) k ≡ false
  nowhere vs h = none_from_end vs (grind (arith, common_steps))

  -- the place is that of the key, and the others are the list without it
  pub taken_out : (vs : List V) (i : ℕ) (d : V) → i < length vs → spot (get_or vs i d) ≡ true → IsDistinct bytes_eq (map bytes vs)
      → (is_among (map bytes vs) k ≡ true) × (map bytes (take i vs ++ drop (suc i) vs) ≡ without_key k (map bytes vs))
  unfolding IsDistinct
  taken_out [] i d lt h apart = absurd (omega arith)
  taken_out (v ∷ vs) zero d lt h apart =
      let here : k ≡ bytes v = same_key k (bytes v) h in
      let none : is_among (map bytes vs) k ≡ false = apart_absent k (map bytes vs) (subst (λ j. AllByRecursion (λ y. bytes_eq j y ≡ false) (map bytes vs)) (sym here) apart.0) in (
        ap (λ b. b || is_among (map bytes vs) k) h,
        sym (without_absent k (map bytes vs) none) ∙ sym (ap (λ b. cond (not b) (bytes v ∷ without_key k (map bytes vs)) (without_key k (map bytes vs))) h),
      )
  taken_out (v ∷ vs) (suc i) d lt h apart = by_test (bytes_eq k (bytes v)) refl (taken_out vs i d (omega arith) h apart.1)
    where
      by_test : (b : Bool) → bytes_eq k (bytes v) ≡ b
          → (is_among (map bytes vs) k ≡ true) × (map bytes (take i vs ++ drop (suc i) vs) ≡ without_key k (map bytes vs))
          → ((b || is_among (map bytes vs) k) ≡ true) × (bytes v ∷ map bytes (take i vs ++ drop (suc i) vs) ≡ cond (not b) (bytes v ∷ without_key k (map bytes vs)) (without_key k (map bytes vs)))
      by_test true e rest =
          let here : k ≡ bytes v = same_key k (bytes v) e in
          let none : is_among (map bytes vs) k ≡ false = apart_absent k (map bytes vs) (subst (λ j. AllByRecursion (λ y. bytes_eq j y ≡ false) (map bytes vs)) (sym here) apart.0) in
          let c : true ≡ false = sym rest.0 ∙ none in absurd cc
      by_test false e rest = (rest.0, ap (λ xs. bytes v ∷ xs) rest.1)

  -- the same, where the place was found
  pub taken_out_at : (vs : List V) (i : ℕ) → position spot vs ≡ Some i → IsDistinct bytes_eq (map bytes vs)
      → (i < length vs) × (is_among (map bytes vs) k ≡ true) × (map bytes (take i vs ++ drop (suc i) vs) ≡ without_key k (map bytes vs)) × ((d : V) → spot (get_or vs i d) ≡ true)
  taken_out_at [] i h apart = let c : None ≡ Some i = h in absurd cc
  taken_out_at (v ∷ vs) i h apart =
      let at = position-Some spot (v ∷ vs) i v h in
      let out = taken_out (v ∷ vs) i v at.0 at.1 apart in
      (at.0, out.0, out.1, λ d. (position-Some spot (v ∷ vs) i d h).1)

  -- whether a place was found
  pub found : (vs : List V) → IsDistinct bytes_eq (map bytes vs) → is_some (position spot vs) ≡ is_among (map bytes vs) k
  found vs apart = by_place (position spot vs) refl
    where
      by_place : (r : Option ℕ) → position spot vs ≡ r → is_some (position spot vs) ≡ is_among (map bytes vs) k
      by_place None h = ap is_some h ∙ sym (nowhere vs h)
      by_place (Some i) h = ap is_some h ∙ sym (taken_out_at vs i h apart).1
