-- On numbers that are among others.
use Rattle.std.specs.Prelude.{◌≡◌, refl, ◌⊎◌, ℕ, zero, suc, ◌+◌, ◌<◌, ◌≤◌, ◌==◌, Bool, true, false, cond, ◌||◌, ◌&&◌, List, [], ◌∷◌, ◌++◌, filter}
use Rattle.std.specs.List.{list_any, range_with_len, flat_map}
use Rattle.std.proofs.Common.{arith, sym, ap, ◌∙◌, subst}
use Rattle.std.proofs.lemmas.Bool.{eqb-true, eq-eqb, or_cases, or_left, or_right}
use Rattle.std.proofs.lemmas.List.Folds.{list_any-append}
use Rattle.logic_core.proofs.Booleans.{same_test as agree, and_false}
use mathlib.Core.Logic.{inl, inr}

abbrev pub In : List ℕ → ℕ → Type 0
In xs x = list_any (λ y. y == x) xs ≡ true

pub none_in : (x : ℕ) → In [] x → ⊥
none_in x h = let e : false ≡ true = h in absurd cc

pub in_either : (xs ys : List ℕ) (x : ℕ) → In (xs ++ ys) x → In xs x ⊎ In ys x
in_either xs ys x h = or_cases (list_any (λ y. y == x) xs) (list_any (λ y. y == x) ys) (sym (list_any-append (λ y. y == x) xs ys) ∙ h)

pub in_left : (xs ys : List ℕ) (x : ℕ) → In xs x → In (xs ++ ys) x
in_left xs ys x h = list_any-append (λ y. y == x) xs ys ∙ or_left (list_any (λ y. y == x) xs) (list_any (λ y. y == x) ys) h

pub in_right : (xs ys : List ℕ) (x : ℕ) → In ys x → In (xs ++ ys) x
in_right xs ys x h = list_any-append (λ y. y == x) xs ys ∙ or_right (list_any (λ y. y == x) xs) (list_any (λ y. y == x) ys) h

-- one of the numbers passes the test
pub one_passes : (t : ℕ → Bool) (xs : List ℕ) → list_any t xs ≡ true → (x : ℕ) × In xs x × (t x ≡ true)
one_passes t [] h = let e : false ≡ true = h in absurd cc
one_passes t (x ∷ xs) h = elim (or_cases (t x) (list_any t xs) h) [
  | inl e ↦ (x, or_left (x == x) (list_any (λ y. y == x) xs) (eq-eqb x x refl), e)
  | inr e ↦ let r = one_passes t xs e in (r.0, or_right (x == r.0) (list_any (λ y. y == r.0) xs) r.1, r.2)
]

pub passes_one : (t : ℕ → Bool) (xs : List ℕ) (x : ℕ) → In xs x → t x ≡ true → list_any t xs ≡ true
passes_one t [] x h e = absurd (none_in x h)
passes_one t (y ∷ ys) x h e = elim (or_cases (y == x) (list_any (λ z. z == x) ys) h) [
  | inl s ↦ or_left (t y) (list_any t ys) (ap t (eqb-true y x s) ∙ e)
  | inr r ↦ or_right (t y) (list_any t ys) (passes_one t ys x r e)
]

pub in_flat : (f : ℕ → List ℕ) (xs : List ℕ) (x : ℕ) → In (flat_map f xs) x → (r : ℕ) × In xs r × In (f r) x
in_flat f [] x h = absurd (none_in x h)
in_flat f (y ∷ ys) x h = elim (in_either (f y) (flat_map f ys) x h) [
  | inl i ↦ (y, or_left (y == y) (list_any (λ z. z == y) ys) (eq-eqb y y refl), i)
  | inr i ↦ let r = in_flat f ys x i in (r.0, or_right (y == r.0) (list_any (λ z. z == r.0) ys) r.1, r.2)
]

pub flat_in : (f : ℕ → List ℕ) (xs : List ℕ) (r x : ℕ) → In xs r → In (f r) x → In (flat_map f xs) x
flat_in f [] r x h i = absurd (none_in r h)
flat_in f (y ∷ ys) r x h i = elim (or_cases (y == r) (list_any (λ z. z == r) ys) h) [
  | inl s ↦ in_left (f y) (flat_map f ys) x (subst (λ z. In (f z) x) (sym (eqb-true y r s)) i)
  | inr k ↦ in_right (f y) (flat_map f ys) x (flat_in f ys r x k i)
]

pub among_filter : (t : ℕ → Bool) (xs : List ℕ) (x : ℕ) → list_any (λ y. y == x) (filter t xs) ≡ (list_any (λ y. y == x) xs && t x)
among_filter t [] x = refl
among_filter t (y ∷ ys) x = by (y == x) refl (t y) refl (among_filter t ys x)
  where
    by : (b : Bool) → (y == x) ≡ b → (c : Bool) → t y ≡ c → list_any (λ z. z == x) (filter t ys) ≡ (list_any (λ z. z == x) ys && t x) → list_any (λ z. z == x) (cond c (y ∷ filter t ys) (filter t ys)) ≡ ((b || list_any (λ z. z == x) ys) && t x)
    by true e true k h = ap (λ b. b || list_any (λ z. z == x) (filter t ys)) e ∙ sym (ap t (sym (eqb-true y x e)) ∙ k)
    by true e false k h = h ∙ (λ i. list_any (λ z. z == x) ys && f i) ∙ and_false (list_any (λ z. z == x) ys) ∙ sym f
      where
        f : t x ≡ false
        f = ap t (sym (eqb-true y x e)) ∙ k
    by false e true k h = ap (λ b. b || list_any (λ z. z == x) (filter t ys)) e ∙ h
    by false e false k h = h

pub range_in : (a n x : ℕ) → In (range_with_len a n) x → (a ≤ x) × (x < a + n)
range_in a zero x h = absurd (none_in x h)
range_in a (suc n) x h = elim (or_cases (a == x) (list_any (λ y. y == x) (range_with_len (a + 1) n)) h) [
  | inl s ↦ let e = eqb-true a x s in (omega (e, arith), omega (e, arith))
  | inr i ↦ let r = range_in (a + 1) n x i in let l = r.0 in let u = r.1 in (omega (l, arith), omega (u, arith))
]

pub in_range : (a n x : ℕ) → a ≤ x → x < a + n → In (range_with_len a n) x
in_range a zero x l u = absurd (omega (l, u, arith))
in_range a (suc n) x l u = by (a == x) refl (λ m. in_range (a + 1) n x m (omega (u, arith)))
  where
    above : (a ≡ x → ⊥) → a + 1 ≤ x
    above d = omega (l, d, arith)

    by : (b : Bool) → (a == x) ≡ b → (a + 1 ≤ x → list_any (λ y. y == x) (range_with_len (a + 1) n) ≡ true) → (b || list_any (λ y. y == x) (range_with_len (a + 1) n)) ≡ true
    by true e f = refl
    by false e f = f (above (λ s. let t : true ≡ false = sym (eq-eqb a x s) ∙ e in absurd cc))

-- filters by tests that agree
pub filter_alike : (s t : ℕ → Bool) (xs : List ℕ) → ((x : ℕ) → In xs x → s x ≡ t x) → filter s xs ≡ filter t xs
filter_alike s t [] h = refl
filter_alike s t (x ∷ xs) h =
    λ i. cond (h x (or_left (x == x) (list_any (λ y. y == x) xs) (eq-eqb x x refl)) i)
    (x ∷ filter_alike s t xs (λ y k. h y (or_right (x == y) (list_any (λ z. z == y) xs) k)) i)
    (filter_alike s t xs (λ y k. h y (or_right (x == y) (list_any (λ z. z == y) xs) k)) i)

pub range_more : (a n : ℕ) → range_with_len a (n + 1) ≡ range_with_len a n ++ (a + n) ∷ []
range_more a zero = let e : 0 + 1 ≡ suc 0 = omega arith in let f : a ≡ a + 0 = omega arith in ap (range_with_len a) e ∙ (λ i. f i ∷ [])
range_more a (suc n) = let e : suc n + 1 ≡ suc (n + 1) = omega arith in let f : a + 1 + n ≡ a + suc n = omega arith in ap (range_with_len a) e ∙ (λ i. a ∷ (range_more (a + 1) n ∙ (λ j. range_with_len (a + 1) n ++ f j ∷ [])) i)

pub numbers_more : (n : ℕ) → range_with_len 0 (n + 1) ≡ range_with_len 0 n ++ n ∷ []
numbers_more n = let f : 0 + n ≡ n = omega arith in range_more 0 n ∙ (λ i. range_with_len 0 n ++ f i ∷ [])
