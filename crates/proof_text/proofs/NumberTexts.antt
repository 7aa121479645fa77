-- A number's text is that of its tenth, and one digit more.
use Rattle.std.proofs.Common.{◌≡◌, ℕ, zero, suc, ◌+◌, ◌*◌, ◌/◌, ◌%◌, ◌^◌, ◌<◌, ◌≤◌, ◌==◌, Bool, true, false, if◌then◌else◌, List, [], ◌∷◌, ◌++◌, refl, ap, sym, ◌∙◌, append_assoc, arith}
use Rattle.std.proofs.lemmas.Bool.Decides.{nat_tests}
use Rattle.std.proofs.lemmas.Nat.{pow-add}
use Rattle.std.specs.Fmt.{digits_onto, digit_glyph}
use Rattle.obligation_text.specs.Numbers.{number_text}

one_more : (k : ℕ) → suc k ≡ 1 + k
one_more k = omega arith

power_more : (k : ℕ) → 10 ^ (suc k) ≡ 10 * 10 ^ k
power_more k = ap (λ j. 10 ^ j) (one_more k) ∙ pow-add 10 1 k

power_grows : (q : ℕ) → q + 1 ≤ 10 ^ q
power_grows zero = omega arith
power_grows (suc q) = let h = power_grows q in let e = power_more q in omega arith

below : (n q p : ℕ) → q ≡ n / 10 ^ 64 → q + 1 ≤ p → n < 10 ^ 64 * p
below n q p e l = omega arith

places : (n : ℕ) → n < 10 ^ (64 + n / 10 ^ 64)
places n = let q = n / 10 ^ 64 in let b = below n q (10 ^ q) refl (power_grows q) in let e = pow-add 10 64 q in omega arith

fewer : (n k : ℕ) → n < 10 ^ suc (suc k) → n / 10 < 10 ^ suc k
fewer n k l = let e = power_more (suc k) in omega arith

if_zero : {A : Type 0} (m : ℕ) (x y : A) → m ≡ 0 → (if m == 0 then x else y) ≡ x
if_zero m x y e = ap (λ k. if k == 0 then x else y) e

if_positive : {A : Type 0} (m : ℕ) (x y : A) → 0 < m → (if m == 0 then x else y) ≡ y
if_positive m x y l = ap (λ b. if b then x else y) (let e : (m == 0) ≡ false = grind (arith, nat_tests) in e)

-- the digits of a number come before what stands behind it
in_front : (k n : ℕ) (ds : List ℕ) → digits_onto k 10 false n ds ≡ digits_onto k 10 false n [] ++ ds
in_front zero n ds = refl
in_front (suc k) n ds = by (n / 10 == 0) (in_front k (n / 10) (digit_glyph false (n % 10) ∷ ds)) (in_front k (n / 10) (digit_glyph false (n % 10) ∷ []))
  where
    by : (b : Bool) → digits_onto k 10 false (n / 10) (digit_glyph false (n % 10) ∷ ds) ≡ digits_onto k 10 false (n / 10) [] ++ digit_glyph false (n % 10) ∷ ds
        → digits_onto k 10 false (n / 10) (digit_glyph false (n % 10) ∷ []) ≡ digits_onto k 10 false (n / 10) [] ++ digit_glyph false (n % 10) ∷ []
        → (if b then digit_glyph false (n % 10) ∷ ds else digits_onto k 10 false (n / 10) (digit_glyph false (n % 10) ∷ ds))
        ≡ (if b then digit_glyph false (n % 10) ∷ [] else digits_onto k 10 false (n / 10) (digit_glyph false (n % 10) ∷ [])) ++ ds
    by true all one = refl
    by false all one = all ∙ sym (append_assoc (digits_onto k 10 false (n / 10) []) (digit_glyph false (n % 10) ∷ []) ds) ∙ sym (ap (λ l. l ++ ds) one)

-- more places than a number takes add nothing
same_places : (j k n : ℕ) (ds : List ℕ) → n < 10 ^ suc j → n < 10 ^ suc k → digits_onto (suc j) 10 false n ds ≡ digits_onto (suc k) 10 false n ds
same_places zero zero n ds lj lk = refl
same_places zero (suc k) n ds lj lk = if_zero (n / 10) _ _ (omega arith) ∙ sym (if_zero (n / 10) _ _ (omega arith))
same_places (suc j) zero n ds lj lk = if_zero (n / 10) _ _ (omega arith) ∙ sym (if_zero (n / 10) _ _ (omega arith))
same_places (suc j) (suc k) n ds lj lk = ap (λ l. if n / 10 == 0 then digit_glyph false (n % 10) ∷ ds else l) (same_places j k (n / 10) (digit_glyph false (n % 10) ∷ ds) (fewer n j lj) (fewer n k lk))

by_count : (j k n : ℕ) → j ≡ suc k → n < 10 ^ j → n < 10 ^ suc k
by_count j k n e l = let p : 10 ^ j ≡ 10 ^ suc k = ap (λ i. 10 ^ i) e in omega arith

at_places : (k n : ℕ) → n < 10 ^ suc k → number_text n ≡ digits_onto (suc k) 10 false n []
at_places k n l = let e : 64 + n / 10 ^ 64 ≡ suc (63 + n / 10 ^ 64) = omega arith in
    ap (λ j. digits_onto j 10 false n []) e ∙ same_places (63 + n / 10 ^ 64) k n [] (by_count (64 + n / 10 ^ 64) (63 + n / 10 ^ 64) n e (places n)) l

digit_is : (d : ℕ) → d < 10 → digit_glyph false d ≡ 48 + d
digit_is d l = grind (arith, nat_tests)

last_of : (v d : ℕ) → d < 10 → (10 * v + d) % 10 ≡ d
last_of v d l = omega arith

tenth_of : (v d : ℕ) → d < 10 → (10 * v + d) / 10 ≡ v
tenth_of v d l = omega arith

pub one_digit : (d : ℕ) → d < 10 → number_text d ≡ (48 + d) ∷ []
one_digit d l = let r : d % 10 ≡ d = omega arith in
    at_places 0 d (omega arith) ∙ if_zero (d / 10) _ _ (omega arith) ∙ ap (λ g. digit_glyph false g ∷ []) r ∙ ap (λ g. g ∷ []) (digit_is d l)

with_digit : (v d k : ℕ) → v < 10 ^ suc k → d < 10 → 10 * v + d < 10 ^ suc (suc k)
with_digit v d k lv ld = let e = power_more (suc k) in omega arith

pub more_digits : (v d : ℕ) → 0 < v → d < 10 → number_text (10 * v + d) ≡ number_text v ++ (48 + d) ∷ []
more_digits v d pv ld =
    let e : 64 + v / 10 ^ 64 ≡ suc (63 + v / 10 ^ 64) = omega arith in
    let k = 63 + v / 10 ^ 64 in
    let lv : v < 10 ^ suc k = by_count (64 + v / 10 ^ 64) k v e (places v) in
    let n = 10 * v + d in
    let t : n / 10 ≡ v = tenth_of v d ld in
    at_places (suc k) n (with_digit v d k lv ld)
    ∙ if_positive (n / 10) _ _ (omega arith)
    ∙ ap (λ m. digits_onto (suc k) 10 false m (digit_glyph false (n % 10) ∷ [])) t
    ∙ ap (λ g. digits_onto (suc k) 10 false v (digit_glyph false g ∷ [])) (last_of v d ld)
    ∙ ap (λ g. digits_onto (suc k) 10 false v (g ∷ [])) (digit_is d ld)
    ∙ in_front (suc k) v ((48 + d) ∷ [])
    ∙ ap (λ l. l ++ (48 + d) ∷ []) (sym (at_places k v lv))
