-- One more number, no lower than those before, among those in a range in rising order.
use Rattle.std.specs.Prelude.{◌≡◌, refl, ℕ, zero, suc, ◌+◌, ◌-◌, ◌<◌, ◌≤◌, ◌==◌, Bool, true, false, not, cond, ◌||◌, List, [], ◌∷◌, ◌++◌, filter, take, length, get_or, All}
use Rattle.std.specs.List.{list_any, range_with_len}
use Rattle.std.specs.List.Sorted.{IsNonDecreasing, IsPermutation}
use Rattle.std.proofs.Common.{arith, ap, sym, ◌∙◌, inl, inr}
use Rattle.std.proofs.lemmas.Bool.{cases_eq, eq-eqb, ne_eqb, eqb-false}
use Rattle.std.proofs.lemmas.List.{get_or-take, get_or_default, length-take}
use Rattle.std.proofs.lemmas.List.Folds.{list_any-append, list_any_none, list_any_at}
use Rattle.std.proofs.lemmas.List.Elements.{All-weaker}
use Rattle.std.proofs.lemmas.List.Sorted.{list_any-IsPermutation}
use Rattle.logic_core.proofs.Booleans.{or_false, or_true}
use Rattle.bpl_model.specs.Rising.{inside}

abbrev has : List ℕ → ℕ → Bool
has xs v = list_any (λ x. x == v) xs

-- tests that agree in the range keep the same
filter_same : (p q : ℕ → Bool) (low count : ℕ) → ((v : ℕ) → low ≤ v → v < low + count → p v ≡ q v) → filter p (range_with_len low count) ≡ filter q (range_with_len low count)
filter_same p q low zero h = refl
filter_same p q low (suc n) h =
    let e = h low (omega arith) (omega arith) in
    let rest = filter_same p q (low + 1) n (λ v a b. h v (omega (arith, a)) (omega (arith, b))) in
    λ i. cond (e i) (low ∷ rest i) (rest i)

filter_none : (p : ℕ → Bool) (low count : ℕ) → ((v : ℕ) → low ≤ v → v < low + count → p v ≡ false) → filter p (range_with_len low count) ≡ []
filter_none p low zero h = refl
filter_none p low (suc n) h =
    let e = h low (omega arith) (omega arith) in
    let rest = filter_none p (low + 1) n (λ v a b. h v (omega (arith, a)) (omega (arith, b))) in
    λ i. cond (e i) (low ∷ rest i) (rest i)

has_more : (xs : List ℕ) (x v : ℕ) → has (xs ++ x ∷ []) v ≡ (has xs v || (x == v || false))
has_more xs x v = list_any-append (λ y. y == v) xs (x ∷ [])

other_stays : (xs : List ℕ) (x v : ℕ) → ¬ (x ≡ v) → has (xs ++ x ∷ []) v ≡ has xs v
other_stays xs x v ne = has_more xs x v ∙ (ap (λ b. has xs v || (b || false)) (ne_eqb x v ne) ∙ or_false (has xs v))

itself : (xs : List ℕ) (x v : ℕ) → x ≡ v → has (xs ++ x ∷ []) v ≡ true
itself xs x v e = has_more xs x v ∙ (ap (λ b. has xs v || (b || false)) (eq-eqb x v e) ∙ or_true (has xs v))

-- a number out of the range, or there before, changes nothing
pub outside_stays : (low count x : ℕ) (xs : List ℕ) → ¬ ((low ≤ x) × (x < low + count)) → inside low count (xs ++ x ∷ []) ≡ inside low count xs
outside_stays low count x xs out = filter_same (has (xs ++ x ∷ [])) (has xs) low count (λ v a b. other_stays xs x v (λ e. out (omega (arith, e, a), omega (arith, e, b))))

pub again_stays : (low count x : ℕ) (xs : List ℕ) → has xs x ≡ true → inside low count (xs ++ x ∷ []) ≡ inside low count xs
again_stays low count x xs there = filter_same (has (xs ++ x ∷ [])) (has xs) low count (λ v a b. elim (cases_eq x v) [
  | inl e ↦ itself xs x v e ∙ sym (sym (ap (has xs) e) ∙ there)
  | inr ne ↦ other_stays xs x v ne
])

none_above : (xs : List ℕ) (x v : ℕ) → All (λ y. y ≤ x) xs → x < v → has xs v ≡ false
none_above xs x v h below = list_any_none (λ y. y == v) xs (All-weaker (λ y. y ≤ x) (λ y. (y == v) ≡ false) (λ y le. ne_eqb y v (λ e. omega (arith, e, le, below))) xs h)

-- a new one, no lower than the others, comes last
pub new_last : (low count x : ℕ) (xs : List ℕ) → All (λ y. y ≤ x) xs → has xs x ≡ false → low ≤ x → x < low + count → inside low count (xs ++ x ∷ []) ≡ inside low count xs ++ x ∷ []
new_last low zero x xs h new a b = absurd (omega (arith, a, b))
new_last low (suc n) x xs h new a b = elim (cases_eq low x) [
  | inl e ↦
      let here : has (xs ++ x ∷ []) low ≡ true = itself xs x low (sym e) in
      let before : has xs low ≡ false = ap (has xs) e ∙ new in
      let after : filter (has (xs ++ x ∷ [])) (range_with_len (low + 1) n) ≡ [] = filter_none (has (xs ++ x ∷ [])) (low + 1) n (λ v c d. other_stays xs x v (λ q. omega (arith, q, c, e)) ∙ none_above xs x v h (omega (arith, c, e))) in
      let was : filter (has xs) (range_with_len (low + 1) n) ≡ [] = filter_none (has xs) (low + 1) n (λ v c d. none_above xs x v h (omega (arith, c, e))) in
      (λ i. cond (here i) (e i ∷ after i) (after i)) ∙ sym (λ i. cond (before i) (low ∷ was i) (was i) ++ x ∷ [])
  | inr ne ↦
      let same = other_stays xs x low (λ q. ne (sym q)) in
      let rest = new_last (low + 1) n x xs h new (omega (arith, a, ne)) (omega (arith, b)) in
      (λ i. cond (same i) (low ∷ rest i) (rest i)) ∙ by_test (has xs low)
]
  where
    by_test : (t : Bool) → cond t (low ∷ (filter (has xs) (range_with_len (low + 1) n) ++ x ∷ [])) (filter (has xs) (range_with_len (low + 1) n) ++ x ∷ []) ≡ cond t (low ∷ filter (has xs) (range_with_len (low + 1) n)) (filter (has xs) (range_with_len (low + 1) n)) ++ x ∷ []
    by_test true = refl
    by_test false = refl

-- the order doesn't matter
pub inside_permuted : (low count : ℕ) (xs ys : List ℕ) → IsPermutation xs ys → inside low count ys ≡ inside low count xs
inside_permuted low count xs ys h = filter_same (has ys) (has xs) low count (λ v a b. sym (list_any-IsPermutation (λ x. x == v) xs ys h))

-- of numbers that never fall: the next one is no lower than those before, and among these where it is the last of them
pub take_more : (xs : List ℕ) (i d : ℕ) → i < length xs → take (i + 1) xs ≡ take i xs ++ get_or xs i d ∷ []
take_more [] i d h = absurd (omega (arith, h))
take_more (x ∷ xs) zero d h = let e : 0 + 1 ≡ suc 0 = omega arith in ap (λ k. take k (x ∷ xs)) e
take_more (x ∷ xs) (suc i) d h = let e : suc i + 1 ≡ suc (i + 1) = omega arith in ap (λ k. take k (x ∷ xs)) e ∙ (λ j. x ∷ take_more xs i d (omega (arith, h)) j)

pub all_below : (xs : List ℕ) (i : ℕ) → IsNonDecreasing xs → i < length xs → All (λ y. y ≤ get_or xs i 0) (take i xs)
all_below xs i up h k d l =
    let few = length-take i xs in
    let e = get_or-take i xs k d (omega (arith, l, few)) in
    let le = up k i d (omega (arith, l, few)) h in
    let same = get_or_default xs i d 0 h in
    omega (arith, e, le, same)

pub among_is : (xs : List ℕ) (i : ℕ) → IsNonDecreasing xs → i < length xs → 0 < i → has (take i xs) (get_or xs i 0) ≡ (get_or xs (i - 1) 0 == get_or xs i 0)
among_is xs i up h positive = by_test (get_or xs (i - 1) 0 == get_or xs i 0) refl
  where
    by_test : (b : Bool) → (get_or xs (i - 1) 0 == get_or xs i 0) ≡ b → has (take i xs) (get_or xs i 0) ≡ b
    by_test true e =
        let few = length-take i xs in
        list_any_at (λ y. y == get_or xs i 0) (take i xs) (i - 1) 0 (omega (arith, few, h, positive)) (ap (λ y. y == get_or xs i 0) (get_or-take i xs (i - 1) 0 (omega (arith, positive))) ∙ e)
    by_test false e = list_any_none (λ y. y == get_or xs i 0) (take i xs) (λ k d l. ne_eqb (get_or (take i xs) k d) (get_or xs i 0) (λ q.
        let few = length-take i xs in
        let there : k < i = omega (arith, l, few) in
        let a = get_or-take i xs k d there in
        let b = get_or_default xs k d 0 (omega (arith, there, h)) in
        let c = up k (i - 1) 0 (omega (arith, there)) (omega (arith, h)) in
        let f = up (i - 1) i 0 (omega arith) h in
        eqb-false (get_or xs (i - 1) 0) (get_or xs i 0) e (omega (arith, q, a, b, c, f))))

pub inside_none : (low count : ℕ) → inside low count [] ≡ []
inside_none low count = filter_none (has []) low count (λ v a b. refl)

-- a step over sorted numbers: one in the range that is new, one that isn't, and one out of the range
module _ (low count : ℕ) (xs : List ℕ) (i : ℕ) (up : IsNonDecreasing xs) (there : i < length xs) where
  pub step_new : low ≤ get_or xs i 0 → get_or xs i 0 - low < count → not (has (take i xs) (get_or xs i 0)) ≡ true → inside low count (take (i + 1) xs) ≡ inside low count (take i xs) ++ get_or xs i 0 ∷ []
  step_new a b new = ap (inside low count) (take_more xs i 0 there) ∙ new_last low count (get_or xs i 0) (take i xs) (all_below xs i up there) (denied (has (take i xs) (get_or xs i 0)) new) a (omega (arith, a, b))
    where
      denied : (t : Bool) → not t ≡ true → t ≡ false
      denied true e = absurd (cc)
      denied false e = refl

  pub step_again : not (has (take i xs) (get_or xs i 0)) ≡ false → inside low count (take (i + 1) xs) ≡ inside low count (take i xs)
  step_again old = ap (inside low count) (take_more xs i 0 there) ∙ again_stays low count (get_or xs i 0) (take i xs) (affirmed (has (take i xs) (get_or xs i 0)) old)
    where
      affirmed : (t : Bool) → not t ≡ false → t ≡ true
      affirmed true e = refl
      affirmed false e = absurd (cc)

  pub step_out : ¬ ((low ≤ get_or xs i 0) × (get_or xs i 0 < low + count)) → inside low count (take (i + 1) xs) ≡ inside low count (take i xs)
  step_out out = ap (inside low count) (take_more xs i 0 there) ∙ outside_stays low count (get_or xs i 0) (take i xs) out
