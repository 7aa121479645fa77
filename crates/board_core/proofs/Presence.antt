-- The set of present keys, as it is made.
use Rattle.std.specs.Prelude.{◌≡◌, refl, ℕ, suc, ◌+◌, ◌<◌, ◌≤◌, Bool, true, false, ◌||◌, if◌then◌else◌, List, [], ◌∷◌, ◌++◌, map, length, drop, bytes_eq}
use Rattle.std.specs.Borrow.{Bor}
use Rattle.std.specs.List.{list_any}
use Rattle.std.proofs.Common.{ap, arith, get_or, drop-cons}
use Rattle.std.proofs.lemmas.List.Folds.{list_any-append}
use mathlib.Core.Path.{subst, sym, ◌∙◌}
use Rattle.indexmap.specs.IndexSet.{insert_key}
use Rattle.bv_base.specs.Text.{is_among}
use Rattle.board_core.specs.Kept.{Key}
use Rattle.board_core.specs.Present.{is_present}
use Rattle.board_core.proofs.Keys.{same_key, key_itself}

or_false : (b : Bool) → (b || false) ≡ b
or_false true = refl
or_false false = refl

or_true : (b : Bool) → (b || true) ≡ true
or_true true = refl
or_true false = refl

or_assoc : (a b c : Bool) → ((a || b) || c) ≡ (a || (b || c))
or_assoc true b c = refl
or_assoc false b c = refl

-- a key joins the present ones
pub present_insert : (ks : List (Bor Key)) (v : Bor Key) (k : Key) → is_present (insert_key (λ a b. bytes_eq a.now b.now) ks v) k ≡ (is_present ks k || bytes_eq k v.now)
present_insert ks v k = by_test (list_any (λ j. bytes_eq v.now j.now) ks) refl (bytes_eq k v.now) refl
  where
    by_test : (b : Bool) → list_any (λ j. bytes_eq v.now j.now) ks ≡ b → (t : Bool) → bytes_eq k v.now ≡ t → is_present (if b then ks else ks ++ v ∷ []) k ≡ (is_present ks k || bytes_eq k v.now)
    by_test true e true t = let there : is_present ks k ≡ true = subst (λ j. is_present ks j ≡ true) (sym (same_key k v.now t)) e in there ∙ sym (ap (λ b. b || bytes_eq k v.now) there)
    by_test true e false t = sym (or_false (is_present ks k)) ∙ sym (ap (λ b. is_present ks k || b) t)
    by_test false e c t = list_any-append (λ j. bytes_eq k j.now) ks (v ∷ []) ∙ ap (λ b. is_present ks k || b) (or_false (bytes_eq k v.now))

pub present_more : {Q : Type 0} (f : Q → Key) (qs : List Q) (i : ℕ) (q : Q) (ks js : List (Bor Key)) (v : Bor Key) (k : Key) → i < length qs → q ≡ get_or qs i q → v.now ≡ f q
    → js ≡ insert_key (λ a b. bytes_eq a.now b.now) ks v → (is_present ks k || is_among (map f (drop i qs)) k) ≡ is_among (map f qs) k
    → (is_present js k || is_among (map f (drop (i + 1) qs)) k) ≡ is_among (map f qs) k
present_more f qs i q ks js v k lt is w e h =
    let next : suc i ≡ i + 1 = omega arith in
    let rest : drop i qs ≡ q ∷ drop (i + 1) qs = drop-cons qs i q lt ∙ (λ j. sym is j ∷ drop (next j) qs) in
    ap (λ s. is_present s k || is_among (map f (drop (i + 1) qs)) k) e
    ∙ ap (λ b. b || is_among (map f (drop (i + 1) qs)) k) (present_insert ks v k ∙ ap (λ j. is_present ks k || bytes_eq k j) w)
    ∙ or_assoc (is_present ks k) (bytes_eq k (f q)) (is_among (map f (drop (i + 1) qs)) k)
    ∙ sym (ap (λ s. is_present ks k || is_among (map f s) k) rest)
    ∙ h
