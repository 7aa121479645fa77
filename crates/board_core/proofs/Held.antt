-- A cache's entries and places, after each call.
use Rattle.std.specs.Prelude.{◌≡◌, refl, ℕ, suc, ◌+◌, ◌<◌, ◌≤◌, Bool, true, false, ◌||◌, not, cond, List, [], ◌∷◌, ◌++◌, map, length, take, drop, position, Option, Some, None, bytes_eq}
use Rattle.std.specs.List.{IsDistinct}
use Rattle.std.specs.Map.{lookup}
use Rattle.std.proofs.Common.{ap, arith, get_or}
use Rattle.std.proofs.lemmas.List.{length-map}
use mathlib.Core.Path.{subst, sym, ◌∙◌}
use Rattle.board_core.specs.Kept.{Key, Cached, kept_keys, has_place, without_key, with_answer}
use Rattle.board_core.specs.InsideCache.{IsStored}
use Rattle.board_core.proofs.Lists.{map-last}
use Rattle.board_core.proofs.Keys.{same_key, nowhere, taken_out_at, without_absent}
use Rattle.board_core.proofs.Entries.{shown, not_found}
use Rattle.board_core.proofs.Stored.{nothing_stored, place_stored, unplace_stored, answer_stored, waits_alone}

pub neither : (a b : Bool) → (a || b) ≡ false → (a ≡ false) × (b ≡ false)
neither true b h = let c : true ≡ false = h in absurd cc
neither false true h = let c : true ≡ false = h in absurd cc
neither false false h = (refl, refl)

pub one_of : (a b : Bool) → (a || b) ≡ true → b ≡ false → a ≡ true
one_of true b h n = refl
one_of false b h n = let c : true ≡ false = sym h ∙ n in absurd cc

module _ {V W A : Type 0} (bytes : V → Key) (value : W → A) where
  -- what a clause sees of entries and places
  abbrev pub held : List (V × W) → List V → Cached A
  held es vs = record { kept = shown bytes value es; places = map bytes vs }

  pub held_place : (es fs : List (V × W)) (vs ws : List V) (v : V) (k : Key) → fs ≡ es → ws ≡ vs ++ v ∷ [] → bytes v ≡ k → held fs ws ≡ record { kept = shown bytes value es; places = map bytes vs ++ k ∷ [] }
  held_place es fs vs ws v k e f b = (λ i. record { kept = shown bytes value (e i); places = map bytes (f i) }) ∙ (λ i. record { kept = shown bytes value es; places = map-last bytes vs v i }) ∙ (λ i. record { kept = shown bytes value es; places = map bytes vs ++ b i ∷ [] })

  pub unplace_nowhere : (es : List (V × W)) (vs : List V) (k : Key) → position (λ v. bytes_eq k (bytes v)) vs ≡ None → held es vs ≡ record { kept = shown bytes value es; places = without_key k (map bytes vs) }
  unplace_nowhere es vs k at = λ j. record { kept = shown bytes value es; places = sym (without_absent k (map bytes vs) (nowhere bytes k vs at)) j }

  -- where no place waits, the key has an answer already
  pub keep_nowhere : (es : List (V × W)) (vs : List V) (k : Key) (a : A) → position (λ u. bytes_eq k (bytes u)) vs ≡ None → has_place (held es vs) k ≡ true
      → held es vs ≡ record { kept = with_answer (shown bytes value es) k a; places = without_key k (map bytes vs) }
  keep_nowhere es vs k a at there =
      let none = nowhere bytes k vs at in
      let stays : with_answer (shown bytes value es) k a ≡ shown bytes value es = ap (λ b. cond b (shown bytes value es) (shown bytes value es ++ (k, a) ∷ [])) (one_of _ _ there none) in
      λ j. record { kept = sym stays j; places = sym (without_absent k (map bytes vs) none) j }

  module _ (key_of : A → Key) (Right : A → Type 0) where
    pub new_held : (n : ℕ) (es : List (V × W)) (vs : List V) → es ≡ [] → vs ≡ [] → IsStored key_of Right n (held es vs)
    new_held n es vs e f = subst (λ ws. IsStored key_of Right n (held es ws)) (sym f) (subst (λ fs. IsStored key_of Right n (held fs [])) (sym e) (nothing_stored key_of Right n))

    pub place_held : (n m : ℕ) (es fs : List (V × W)) (vs ws : List V) (v : V) (k : Key) → IsStored key_of Right n (held es vs) → fs ≡ es → ws ≡ vs ++ v ∷ [] → bytes v ≡ k
        → has_place (held es vs) k ≡ false → length vs + 1 ≤ m → IsStored key_of Right m (held fs ws)
    place_held n m es fs vs ws v k h e f b free room =
        let apart = neither _ _ free in
        subst (IsStored key_of Right m) (sym (held_place es fs vs ws v k e f b)) (place_stored key_of Right n m (held es vs) k h apart.0 apart.1 (omega (arith, room, length-map vs bytes)))

    pub unplace_held : (n : ℕ) (es : List (V × W)) (vs ws : List V) (k : Key) (i : ℕ) → IsStored key_of Right n (held es vs) → position (λ v. bytes_eq k (bytes v)) vs ≡ Some i
        → ws ≡ take i vs ++ drop (suc i) vs → IsStored key_of Right n (held es ws) × (held es ws ≡ record { kept = shown bytes value es; places = without_key k (map bytes vs) })
    unplace_held n es vs ws k i h at e =
        let out = taken_out_at bytes k vs i at h.apart in
        let same : held es ws ≡ record { kept = shown bytes value es; places = without_key k (map bytes vs) } = (λ j. record { kept = shown bytes value es; places = map bytes (e j) }) ∙ (λ j. record { kept = shown bytes value es; places = out.2 j }) in
        (subst (IsStored key_of Right n) (sym same) (unplace_stored key_of Right n (held es vs) k h), same)

    -- a key whose place waits is not in the map
    pub waits_not_found : (n : ℕ) (es : List (V × W)) (vs : List V) (k : Key) (v : V) (i : ℕ) → IsStored key_of Right n (held es vs)
        → position (λ u. bytes_eq k (bytes u)) vs ≡ Some i → v ≡ get_or vs i v → lookup (λ u. bytes_eq (bytes v) (bytes u)) es ≡ None
    waits_not_found n es vs k v i h at is =
        let out = taken_out_at bytes k vs i at h.apart in
        let own : k ≡ bytes v = same_key k (bytes v) (subst (λ u. bytes_eq k (bytes u) ≡ true) (sym is) (out.3 v)) in
        subst (λ j. lookup (λ u. bytes_eq j (bytes u)) es ≡ None) own (not_found bytes value k es (waits_alone (shown bytes value es) (map bytes vs) k h.waits out.1))

    -- the place is taken by the answer of its key
    pub keep_held : (n m : ℕ) (es fs : List (V × W)) (vs ws : List V) (k : Key) (v : V) (w : W) (i : ℕ) → IsStored key_of Right n (held es vs)
        → position (λ u. bytes_eq k (bytes u)) vs ≡ Some i → ws ≡ take i vs ++ drop (suc i) vs → v ≡ get_or vs i v → fs ≡ es ++ (v, w) ∷ []
        → key_of (value w) ≡ k → Right (value w) → n ≤ m + 1
        → IsStored key_of Right m (held fs ws) × (held fs ws ≡ record { kept = with_answer (shown bytes value es) k (value w); places = without_key k (map bytes vs) })
    keep_held n m es fs vs ws k v w i h at e is f has right room =
        let out = taken_out_at bytes k vs i at h.apart in
        let own : k ≡ bytes v = same_key k (bytes v) (subst (λ u. bytes_eq k (bytes u) ≡ true) (sym is) (out.3 v)) in
        let alone = waits_alone (shown bytes value es) (map bytes vs) k h.waits out.1 in
        let kept : shown bytes value fs ≡ shown bytes value es ++ (k, value w) ∷ [] = ap (shown bytes value) f ∙ map-last _ es (v, w) ∙ (λ j. shown bytes value es ++ (sym own j, value w) ∷ []) in
        let same : held fs ws ≡ record { kept = shown bytes value es ++ (k, value w) ∷ []; places = without_key k (map bytes vs) } = (λ j. record { kept = kept j; places = map bytes (e j) }) ∙ (λ j. record { kept = shown bytes value es ++ (k, value w) ∷ []; places = out.2 j }) in
        let joins : with_answer (shown bytes value es) k (value w) ≡ shown bytes value es ++ (k, value w) ∷ [] = ap (λ b. cond b (shown bytes value es) (shown bytes value es ++ (k, value w) ∷ [])) alone in (
          subst (IsStored key_of Right m) (sym same) (answer_stored key_of Right n m (held es vs) k (value w) h out.1 has right room),
          same ∙ (λ j. record { kept = sym joins j; places = without_key k (map bytes vs) }),
        )
