-- Kept answers as the entries of a map.
use Rattle.std.specs.Prelude.{◌≡◌, refl, ℕ, Bool, true, false, ◌||◌, not, cond, List, [], ◌∷◌, map, find, Option, Some, None, IfSome, is_some, bytes_eq}
use Rattle.std.specs.List.{AllByRecursion}
use Rattle.std.specs.Map.{lookup}
use Rattle.std.specs.Option.{option_map}
use Rattle.std.proofs.Common.{ap}
use mathlib.Core.Path.{subst, sym, ◌∙◌}
use Rattle.bv_base.specs.Text.{is_among}
use Rattle.board_core.specs.Kept.{Key, kept_keys, kept_at}
use Rattle.board_core.proofs.Keys.{same_key}

pub composed : {X Y Z : Type 0} (f : X → Y) (g : Y → Z) (r : Option X) → option_map (λ x. g (f x)) r ≡ option_map g (option_map f r)
composed f g None = refl
composed f g (Some x) = refl

pub copied_some : {X Y : Type 0} (f : X → Y) (r : Option X) → is_some r ≡ is_some (option_map f r)
copied_some f None = refl
copied_some f (Some x) = refl

module _ {V W A : Type 0} (bytes : V → Key) (value : W → A) where
  -- entries as a clause sees them
  abbrev pub shown : List (V × W) → List (Key × A)
  shown es = map (λ e. (bytes e.0, value e.1)) es

  pub looked_up : (k : Key) (es : List (V × W)) → option_map value (lookup (λ v. bytes_eq k (bytes v)) es) ≡ kept_at (shown es) k
  looked_up k [] = refl
  looked_up k (e ∷ es) = by_test (looked_up k es) (bytes_eq k (bytes e.0))
    where
      by_test : option_map value (lookup (λ v. bytes_eq k (bytes v)) es) ≡ kept_at (shown es) k → (b : Bool)
          → option_map value (cond b (Some e.1) (lookup (λ v. bytes_eq k (bytes v)) es)) ≡ option_map (λ p. p.1) (cond b (Some (bytes e.0, value e.1)) (find (λ p. bytes_eq k p.0) (shown es)))
      by_test r true = refl
      by_test r false = r

  pub is_there : (k : Key) (es : List (V × W)) → is_some (lookup (λ v. bytes_eq k (bytes v)) es) ≡ is_among (kept_keys (shown es)) k
  is_there k [] = refl
  is_there k (e ∷ es) = by_test (is_there k es) (bytes_eq k (bytes e.0))
    where
      by_test : is_some (lookup (λ v. bytes_eq k (bytes v)) es) ≡ is_among (kept_keys (shown es)) k → (b : Bool)
          → is_some (cond b (Some e.1) (lookup (λ v. bytes_eq k (bytes v)) es)) ≡ (b || is_among (kept_keys (shown es)) k)
      by_test r true = refl
      by_test r false = r

nothing_some : {X : Type 0} (r : Option X) → is_some r ≡ false → r ≡ None
nothing_some None h = refl
nothing_some (Some x) h = let c : true ≡ false = h in absurd cc

-- a key without an answer is not found
pub not_found : {V W A : Type 0} (bytes : V → Key) (value : W → A) (k : Key) (es : List (V × W)) → is_among (kept_keys (shown bytes value es)) k ≡ false → lookup (λ v. bytes_eq k (bytes v)) es ≡ None
not_found bytes value k es h = nothing_some _ (is_there bytes value k es ∙ h)

module _ {A : Type 0} (key_of : A → Key) (Right : A → Type 0) (k : Key) where
  -- what is found is a right answer of the key
  pub found_right : (es : List (Key × A)) (a : A) → kept_at es k ≡ Some a → AllByRecursion (λ e. (key_of e.1 ≡ e.0) × Right e.1) es → (key_of a ≡ k) × Right a
  found_right [] a h all = let c : None ≡ Some a = h in absurd cc
  found_right (e ∷ es) a h all = by_test (bytes_eq k e.0) refl h (λ r. found_right es a r all.1)
    where
      by_test : (b : Bool) → bytes_eq k e.0 ≡ b → option_map (λ p. p.1) (cond b (Some e) (find (λ p. bytes_eq k p.0) es)) ≡ Some a → (kept_at es k ≡ Some a → (key_of a ≡ k) × Right a) → (key_of a ≡ k) × Right a
      by_test true t r rest =
          let here : e.1 ≡ a = cc in
          (subst (λ x. key_of x ≡ k) here (all.0.0 ∙ sym (same_key k e.0 t)), subst Right here all.0.1)
      by_test false t r rest = rest r

  pub shown_right : {B : Type 0} (f : B → A) (r : Option B) (es : List (Key × A)) → option_map f r ≡ kept_at es k → AllByRecursion (λ e. (key_of e.1 ≡ e.0) × Right e.1) es → IfSome r (λ b. (key_of (f b) ≡ k) × Right (f b))
  shown_right f None es h all = tt
  shown_right f (Some b) es h all = found_right es (f b) (sym h) all
