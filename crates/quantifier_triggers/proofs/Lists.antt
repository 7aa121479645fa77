-- On lists of which every item has a property, and on numbers among others.
use Rattle.std.specs.Prelude.{◌≡◌, refl, ◌⊎◌, ℕ, zero, suc, ◌+◌, nat_eq, nat_lt, ◌≤◌, Bool, true, false, not, cond, ◌&&◌, ◌||◌, List, [], ◌∷◌, ◌++◌, filter}
use Rattle.std.specs.List.{AllByRecursion, list_any, list_all, range_with_len}
use Rattle.std.proofs.Common.{arith, ap, eqb-true, ◌<◌}
use Rattle.std.proofs.lemmas.Bool.{lt-ltb}
use Rattle.logic_core.proofs.Booleans.{both_true, one_is_true as one_true, neither as both_false}
use mathlib.Core.Path.{subst, sym, ◌∙◌}
use mathlib.Core.Logic.{inl, inr, dite}
use native.Mathlib.Decide.{ℕ_discrete}

-- what passes a test has it, and what was true of every item
pub every_kept : {A : Type 0} (p : A → Bool) (P Q : A → Type 0) → ((x : A) → P x → p x ≡ true → Q x) → (xs : List A) → AllByRecursion P xs → AllByRecursion Q (filter p xs)
every_kept p P Q f [] h = tt
every_kept p P Q f (x ∷ xs) h = at_test (p x) (f x h.0) (every_kept p P Q f xs h.1)
  where
    at_test : (b : Bool) → (b ≡ true → Q x) → AllByRecursion Q (filter p xs) → AllByRecursion Q (cond b (x ∷ filter p xs) (filter p xs))
    at_test true k r = (k refl, r)
    at_test false k r = r

-- the number is among them
abbrev pub Has : ℕ → List ℕ → Type 0
Has v xs = list_any (nat_eq v) xs ≡ true

pub has_left : (v : ℕ) (xs ys : List ℕ) → Has v xs → Has v (xs ++ ys)
has_left v [] ys h = let c : false ≡ true = h in absurd cc
has_left v (x ∷ xs) ys h = at_first (nat_eq v x) h (has_left v xs ys)
  where
    at_first : (b : Bool) → (b || list_any (nat_eq v) xs) ≡ true → (Has v xs → Has v (xs ++ ys)) → (b || list_any (nat_eq v) (xs ++ ys)) ≡ true
    at_first true h f = refl
    at_first false h f = f h

pub has_right : (v : ℕ) (xs ys : List ℕ) → Has v ys → Has v (xs ++ ys)
has_right v [] ys h = h
has_right v (x ∷ xs) ys h = at_first (nat_eq v x) (has_right v xs ys h)
  where
    at_first : (b : Bool) → Has v (xs ++ ys) → (b || list_any (nat_eq v) (xs ++ ys)) ≡ true
    at_first true h = refl
    at_first false h = h

pub has_one : (v : ℕ) (xs ys : List ℕ) → Has v (xs ++ ys) → Has v xs ⊎ Has v ys
has_one v [] ys h = inr h
has_one v (x ∷ xs) ys h = at_first (nat_eq v x) h (has_one v xs ys)
  where
    at_first : (b : Bool) → (b || list_any (nat_eq v) (xs ++ ys)) ≡ true → (Has v (xs ++ ys) → Has v xs ⊎ Has v ys) → ((b || list_any (nat_eq v) xs) ≡ true) ⊎ Has v ys
    at_first true h f = inl refl
    at_first false h f = f h

-- numbers below n that are among xs are among ys
pub all_there : (n : ℕ) (xs ys : List ℕ) → ((v : ℕ) → nat_lt v n ≡ true → Has v xs → Has v ys) → (vs : List ℕ) → AllByRecursion (λ v. nat_lt v n ≡ true) vs
    → list_all (λ v. list_any (nat_eq v) xs) vs ≡ true → list_all (λ v. list_any (nat_eq v) ys) vs ≡ true
all_there n xs ys f [] b h = refl
all_there n xs ys f (v ∷ vs) b h =
    let p = both_true (list_any (nat_eq v) xs) (list_all (λ v. list_any (nat_eq v) xs) vs) h in
    joined (f v b.0 p.0) (all_there n xs ys f vs b.1 p.1)
  where
    joined : {a c : Bool} → a ≡ true → c ≡ true → (a && c) ≡ true
    joined {a = true} h k = k
    joined {a = false} h k = h

pub range_below : (n a k : ℕ) → a + k ≤ n → AllByRecursion (λ v. nat_lt v n ≡ true) (range_with_len a k)
range_below n a zero h = tt
range_below n a (suc k) h = (lt-ltb a n (omega (h, arith)), range_below n (a + 1) k (omega (h, arith)))

-- where none of these below n is new, each of them is there already
pub not_new : (n : ℕ) (there : List ℕ) (v : ℕ) → nat_lt v n ≡ true → (xs : List ℕ)
    → list_any (λ u. nat_lt u n && not (list_any (nat_eq u) there)) xs ≡ false → Has v xs → Has v there
not_new n there v below [] none h = let c : false ≡ true = h in absurd cc
not_new n there v below (x ∷ xs) none h =
    let f = both_false (nat_lt x n && not (list_any (nat_eq x) there)) (list_any (λ u. nat_lt u n && not (list_any (nat_eq u) there)) xs) none in
    elim (one_true (nat_eq v x) (list_any (nat_eq v) xs) h) [
      | inl e ↦ let same : v ≡ x = eqb-true v x e in
          is_there (nat_lt v n) (list_any (nat_eq v) there) below (subst (λ u. (nat_lt u n && not (list_any (nat_eq u) there)) ≡ false) (sym same) f.0)
      | inr k ↦ not_new n there v below xs f.1 k
    ]
  where
    is_there : (a b : Bool) → a ≡ true → (a && not b) ≡ false → b ≡ true
    is_there true true h k = refl
    is_there true false h k = let c : true ≡ false = k in absurd cc
    is_there false b h k = let c : false ≡ true = h in absurd cc

-- a test on each of the numbers from a on
pub all_from : (f : ℕ → Bool) (a k : ℕ) → ((v : ℕ) → v < a + k → f v ≡ true) → list_all f (range_with_len a k) ≡ true
all_from f a zero h = refl
all_from f a (suc k) h = by_test (f a) (h a (omega arith)) (all_from f (a + 1) k (λ v l. h v (omega (arith, l))))
  where
    by_test : (b : Bool) → b ≡ true → list_all f (range_with_len (a + 1) k) ≡ true → (b && list_all f (range_with_len (a + 1) k)) ≡ true
    by_test true e r = r
    by_test false e r = e

pub not_all_from : (f : ℕ → Bool) (a k v : ℕ) → a ≤ v → v < a + k → f v ≡ false → list_all f (range_with_len a k) ≡ false
not_all_from f a zero v le lt h = absurd (omega (arith, le, lt))
not_all_from f a (suc k) v le lt h = dite (ℕ_discrete a v)
    (λ e. ap (λ b. b && list_all f (range_with_len (a + 1) k)) (ap f e ∙ h))
    (λ ne. by_test (f a) (not_all_from f (a + 1) k v (omega (arith, le, ne)) (omega (arith, lt)) h))
  where
    by_test : (b : Bool) → list_all f (range_with_len (a + 1) k) ≡ false → (b && list_all f (range_with_len (a + 1) k)) ≡ false
    by_test true r = r
    by_test false r = refl
