-- The canonical obligation of a well-sorted one is well sorted.
use Rattle.std.specs.Prelude.{◌≡◌, refl, ℕ, zero, suc, ◌+◌, ◌≤◌, nat_eq, Bool, true, false, cond, is_some, Option, Some, None, option_map, unwrap_or, List, [], ◌∷◌, slice_get}
use Rattle.std.specs.List.{AllByRecursion, cons_option, position_from}
use Rattle.std.proofs.Common.{arith, ap, ◌∙◌}
use Rattle.std.proofs.lemmas.Bool.{eq-eqb, or_left, or_right}
use mathlib.Core.Path.{sym}
use Rattle.logic_core.specs.Def.{Obligation}
use Rattle.logic_core.specs.WellSorted.{IsWellSorted}
use Rattle.logic_laws.proofs.RenamedObligations.{AllRenamed, renamed_is_sorted}
use Rattle.logic_core.specs.Renamed.{def_renamed}
use Rattle.logic_core.specs.Variables.{place_in}
use Rattle.obligation_text.specs.Canonical.{picked, canonical, CanonicalKeeps}
use Rattle.obligation_text.proofs.Places.{is_among, In, stands_there, picked_at}
use Rattle.obligation_text.proofs.CanonicalRenames.{mapped_at, fs, vs, definitions_there, canonical_renames, valid_together}

-- what stands in the list is there, at its place or before
stands_in : (ns : List ℕ) (i n : ℕ) → slice_get ns i ≡ Some n → In ns n
stands_in [] i n e = absurd cc
stands_in (m ∷ ns) zero n e = let same : n ≡ m = cc in or_left (nat_eq n m) (is_among ns n) (eq-eqb n m same)
stands_in (m ∷ ns) (suc i) n e = or_right (nat_eq n m) (is_among ns n) (stands_in ns i n e)

spot_before : (ns : List ℕ) (k i n : ℕ) → slice_get ns i ≡ Some n → (j : ℕ) × (position_from (nat_eq n) k ns ≡ Some j) × (j ≤ k + i)
spot_before [] k i n e = absurd cc
spot_before (m ∷ ns) k zero n e = let same : n ≡ m = cc in (k, ap (λ b. cond b (Some k) (position_from (nat_eq n) (k + 1) ns)) (eq-eqb n m same), omega arith)
spot_before (m ∷ ns) k (suc i) n e = by_test (nat_eq n m) (spot_before ns (k + 1) i n e)
  where
    by_test : (b : Bool) → (j : ℕ) × (position_from (nat_eq n) (k + 1) ns ≡ Some j) × (j ≤ k + 1 + i) → (j : ℕ) × (cond b (Some k) (position_from (nat_eq n) (k + 1) ns) ≡ Some j) × (j ≤ k + suc i)
    by_test true r = (k, refl, omega arith)
    by_test false r = (r.0, r.1, omega (r.2, arith))

place_before : (ns : List ℕ) (i n : ℕ) → slice_get ns i ≡ Some n → place_in ns n ≤ i
place_before ns i n e =
    let r = spot_before ns 0 i n e in
    let same : place_in ns n ≡ r.0 = ap (λ o. unwrap_or o 0) r.1 in
    omega (same, r.2, arith)

-- each picked item is that of a number
picked_from : {A : Type 0} (items : List A) (ns : List ℕ) → AllByRecursion (λ n. is_some (slice_get items n) ≡ true) ns → (i : ℕ) (x : A) → slice_get (picked items ns) i ≡ Some x → (n : ℕ) × (slice_get ns i ≡ Some n)
picked_from items [] h i x e = absurd cc
picked_from {A} items (m ∷ ns) h i x e = by_item (slice_get items m) h.0 i e (λ k. picked_from items ns h.1 k x)
  where
    by_item : (o : Option A) → is_some o ≡ true → (i : ℕ) → slice_get (cons_option o (picked items ns)) i ≡ Some x → ((k : ℕ) → slice_get (picked items ns) k ≡ Some x → (n : ℕ) × (slice_get ns k ≡ Some n)) → (n : ℕ) × (slice_get (m ∷ ns) i ≡ Some n)
    by_item None t i k rest = let c : false ≡ true = t in absurd cc
    by_item (Some a) t zero k rest = (m, refl)
    by_item (Some a) t (suc i) k rest = rest i k

of_mapped : {A B : Type 0} (f : A → B) (o : Option A) (y : B) → option_map f o ≡ Some y → (x : A) × (o ≡ Some x)
of_mapped f None y e = absurd cc
of_mapped f (Some x) y e = (x, refl)

module _ (o : Obligation) (sorted : IsWellSorted o) where
  all_renamed : AllRenamed (place_in (fs o sorted)) (place_in (vs o sorted)) (is_among (fs o sorted)) (is_among (vs o sorted)) o (canonical o) (canonical_renames o sorted)
  all_renamed n d e =
      let ns = fs o sorted in
      let anew = def_renamed (place_in ns) (place_in (vs o sorted)) in
      let item = of_mapped anew (slice_get (picked o.defs ns) n) d (sym (mapped_at anew (picked o.defs ns) n) ∙ e) in
      let f = picked_from o.defs ns (definitions_there o sorted) n item.0 item.1 in
      let there = stands_in ns n f.0 f.1 in
      let at_place : slice_get (picked o.defs ns) (place_in ns f.0) ≡ slice_get (picked o.defs ns) n
      = picked_at o.defs ns (definitions_there o sorted) (place_in ns f.0) f.0 (stands_there ns f.0 there) ∙ sym (picked_at o.defs ns (definitions_there o sorted) n f.0 f.1) in (
        f.0,
        there,
        place_before ns n f.0 f.1,
        mapped_at anew (picked o.defs ns) (place_in ns f.0) ∙ ap (option_map anew) at_place ∙ sym (mapped_at anew (picked o.defs ns) n) ∙ e,
      )

  pub canonical_is_sorted : IsWellSorted (canonical o)
  canonical_is_sorted = renamed_is_sorted (place_in (fs o sorted)) (place_in (vs o sorted)) (is_among (fs o sorted)) (is_among (vs o sorted)) o (canonical o) (canonical_renames o sorted) sorted all_renamed

pub canonical_keeps : CanonicalKeeps
canonical_keeps o sorted = let v = valid_together o sorted in (canonical_is_sorted o sorted, v.0, v.1)
