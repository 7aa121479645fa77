-- Numbers that are sorted, each once, are those of the numbers below a bound that stand among them.
use Rattle.std.proofs.Common.{◌≡◌, refl, sym, ap, ◌∙◌, ℕ, zero, suc, ◌+◌, ◌≤◌, ◌<◌, eqb, ltb, Bool, true, false, true≢false, ◌||◌, ◌&&◌, cond, List, [], ◌∷◌, filter, arith}
use Rattle.std.specs.List.{list_any, range_with_len, dedup, AllByRecursion}
use Rattle.std.specs.List.Sorted.{IsPermutation, IsSorted, IsStrictlySortedBy}
use Rattle.std.specs.Ordering.{nat_cmp}
use Rattle.std.specs.Cmp.{nat_cmp_is, nat_eq_equiv}
use Rattle.std.specs.declared.cmp.Ordering.TheVariants.{Less, Equal, Greater}
use Rattle.std.proofs.lemmas.Bool.{cases_order, eq-eqb, ne_eqb, eqb-true, lt-ltb, le-ltb}
use Rattle.std.proofs.lemmas.List.Kept.{Contains-dedup_nat, Contains-from_dedup}
use Rattle.std.proofs.lemmas.List.Sorted.{list_any-IsPermutation}
use Rattle.std.proofs.lemmas.Map.Keys.{IsStrictlyIncreasing-dedup, sorted_from_strictly_increasing}
use Rattle.std.proofs.lemmas.Map.Views.{list_any-from_Contains, Contains-from_any}
use Rattle.logic_core.proofs.Booleans.{same_test}
use mathlib.Core.Logic.{inl, inr}

abbrev pub has : ℕ → List ℕ → Bool
has d xs = list_any (eqb d) xs

-- numbers from a on that pass the test, so many of them
abbrev pub passing : (ℕ → Bool) → ℕ → ℕ → List ℕ
passing p a n = filter p (range_with_len a n)

-- each number is above those before it, and the first is a or more
abbrev Rises : ℕ → List ℕ → Type 0
Rises a [] = Unit {0}
Rises a (x ∷ xs) = (a ≤ x) × Rises (x + 1) xs

rises_from : (a b : ℕ) (xs : List ℕ) → a ≤ b → Rises b xs → Rises a xs
rises_from a b [] l r = tt
rises_from a b (x ∷ xs) l r = (omega (arith, l, r.0), r.1)

none_below : (d a : ℕ) (xs : List ℕ) → d < a → Rises a xs → has d xs ≡ false
none_below d a [] l r = refl
none_below d a (x ∷ xs) l r = ap (λ b. b || has d xs) (ne_eqb d x (λ e. omega (arith, e, l, r.0))) ∙ none_below d (x + 1) xs (omega (arith, l, r.0)) r.1

-- the same numbers from a on, and none above the last
abbrev AreThose : (ℕ → Bool) → ℕ → ℕ → List ℕ → Type 0
AreThose p end a xs = (d : ℕ) → a ≤ d → has d xs ≡ (ltb d end && p d)

passes : (p : ℕ → Bool) (end a : ℕ) (xs : List ℕ) → a < end → AreThose p end a xs → has a xs ≡ p a
passes p end a xs l h = h a (omega arith) ∙ ap (λ b. b && p a) (lt-ltb a end l)

-- one number less
skipped : (p : ℕ → Bool) (a n : ℕ) (xs : List ℕ) → p a ≡ false → xs ≡ passing p (a + 1) n → xs ≡ passing p a (suc n)
skipped p a n xs h rest = rest ∙ sym (ap (λ b. cond b (a ∷ passing p (a + 1) n) (passing p (a + 1) n)) h)

taken : (p : ℕ → Bool) (a n x : ℕ) (xs : List ℕ) → a ≡ x → p a ≡ true → xs ≡ passing p (a + 1) n → x ∷ xs ≡ passing p a (suc n)
taken p a n x xs e h rest = (λ i. sym e i ∷ rest i) ∙ sym (ap (λ b. cond b (a ∷ passing p (a + 1) n) (passing p (a + 1) n)) h)

others : (p : ℕ → Bool) (end a x : ℕ) (xs : List ℕ) → a ≡ x → AreThose p end a (x ∷ xs) → AreThose p end (a + 1) xs
others p end a x xs e h d l = sym (ap (λ b. b || has d xs) (ne_eqb d x (λ q. omega (arith, e, q, l)))) ∙ h d (omega (arith, l))

first_passes : (p : ℕ → Bool) (end a x : ℕ) (xs : List ℕ) → a ≡ x → a < end → AreThose p end a (x ∷ xs) → p a ≡ true
first_passes p end a x xs e l h = sym (passes p end a (x ∷ xs) l h) ∙ ap (λ b. b || has a xs) (eq-eqb a x e)

no_more : (p : ℕ → Bool) (a x : ℕ) (xs : List ℕ) → a ≤ x → AreThose p a a (x ∷ xs) → ⊥
no_more p a x xs l h = true≢false (sym (ap (λ b. b || has x xs) (eq-eqb x x refl)) ∙ h x l ∙ ap (λ b. b && p x) (le-ltb x a l))

pub rising_are : (p : ℕ → Bool) (end a n : ℕ) (xs : List ℕ) → a + n ≡ end → Rises a xs → AreThose p end a xs → xs ≡ passing p a n
rising_are p end a zero [] e r h = refl
rising_are p end a zero (x ∷ xs) e r h = absurd (no_more p end x xs (omega (arith, e, r.0)) (λ d l. h d (omega (arith, e, l))))
rising_are p end a (suc n) [] e r h = skipped p a n [] (sym (passes p end a [] (omega (arith, e)) h)) (rising_are p end (a + 1) n [] (omega (arith, e)) tt (λ d l. h d (omega (arith, l))))
rising_are p end a (suc n) (x ∷ xs) e r h = elim (cases_order a x) [
  | inl q ↦ taken p a n x xs q (first_passes p end a x xs q (omega (arith, e)) h) (rising_are p end (a + 1) n xs (omega (arith, e)) (rises_from (a + 1) (x + 1) xs (omega (arith, q)) r.1) (others p end a x xs q h))
  | inr (inl l) ↦ skipped p a n (x ∷ xs) (sym (passes p end a (x ∷ xs) (omega (arith, e)) h) ∙ none_below a (a + 1) (x ∷ xs) (omega arith) (omega (arith, l), r.1)) (rising_are p end (a + 1) n (x ∷ xs) (omega (arith, e)) (omega (arith, l), r.1) (λ d k. h d (omega (arith, k))))
  | inr (inr g) ↦ absurd (omega (arith, g, r.0))
]

-- sorted numbers, each once, rise
less_from : (x y : ℕ) → nat_cmp x y ≡ Less → x < y
less_from x y e = elim (cases_order x y) [
  | inl same ↦ absurd (let q : Equal ≡ nat_cmp x y = nat_cmp_is x y Equal same in let d : Equal ≡ Less = q ∙ e in cc)
  | inr (inl less) ↦ less
  | inr (inr more) ↦ absurd (let q : Greater ≡ nat_cmp x y = nat_cmp_is x y Greater more in let d : Greater ≡ Less = q ∙ e in cc)
]

all_from : (x : ℕ) (xs : List ℕ) → AllByRecursion (λ y. nat_cmp x y ≡ Less) xs → AllByRecursion (λ y. x + 1 ≤ y) xs
all_from x [] h = tt
all_from x (y ∷ xs) h = (omega (arith, less_from x y h.0), all_from x xs h.1)

sorted_rises : (a : ℕ) (xs : List ℕ) → AllByRecursion (λ y. a ≤ y) xs → IsStrictlySortedBy nat_cmp xs → Rises a xs
unfolding IsStrictlySortedBy
sorted_rises a [] l h = tt
sorted_rises a (x ∷ xs) l h = (l.0, sorted_rises (x + 1) xs (all_from x xs h.0) h.1)

from_nothing : (xs : List ℕ) → AllByRecursion (λ y. 0 ≤ y) xs
from_nothing [] = tt
from_nothing (x ∷ xs) = (omega arith, from_nothing xs)

once : (d : ℕ) (xs : List ℕ) → has d (dedup eqb xs) ≡ has d xs
once d xs = same_test (has d (dedup eqb xs)) (has d xs)
    (λ h. list_any-from_Contains nat_eq_equiv d xs (Contains-from_dedup eqb xs d (Contains-from_any eqb-true d (dedup eqb xs) h)))
    (λ h. list_any-from_Contains nat_eq_equiv d (dedup eqb xs) (Contains-dedup_nat xs d (Contains-from_any eqb-true d xs h)))

pub sorted_once : (p : ℕ → Bool) (count : ℕ) (xs sorted : List ℕ) → ((d : ℕ) → has d xs ≡ (ltb d count && p d)) → IsPermutation xs sorted → IsSorted nat_cmp sorted → dedup eqb sorted ≡ passing p 0 count
sorted_once p count xs sorted those perm rises = rising_are p count 0 count (dedup eqb sorted) (omega arith)
    (sorted_rises 0 (dedup eqb sorted) (from_nothing (dedup eqb sorted)) (sorted_from_strictly_increasing (dedup eqb sorted) (IsStrictlyIncreasing-dedup sorted rises)))
    (λ d l. once d sorted ∙ sym (list_any-IsPermutation (eqb d) xs sorted perm) ∙ those d)
