-- A number's digits before a byte that ends a number tell the number and what follows.
use Rattle.std.proofs.Common.{◌≡◌, ℕ, suc, ◌<◌, ◌^◌, ℤ, pos, negsuc, nat_eq, nat_lt, false, IsTrue, List, [], ◌∷◌, ◌++◌, refl, ap, sym, ◌∙◌, subst, arith, length, zero, ◌+◌, ◌*◌, ◌/◌, ◌%◌, ◌≤◌, Bool, true}
use Rattle.std.proofs.lemmas.Bool.Decides.{nat_tests}
use Rattle.std.proofs.lemmas.Bool.{eqb-false, eqb-true}
use Rattle.std.proofs.lemmas.Nat.{pow-add}
use Rattle.std.proofs.lemmas.Str.Parse.{digit_from_value}
use Rattle.std.specs.Char.{digit_value}
use Rattle.std.specs.Fmt.{digits_onto, digit_glyph}
use Rattle.std.specs.Prelude.{if◌then◌else◌, ◌==◌}
use Rattle.std.specs.Str.Parse.{AllDigits, digits_value, digits_value_after, IsNumeral}
use Rattle.obligation_text.specs.Numbers.{number_text, signed_text}

-- the first byte, or 0, and what follows it
abbrev pub first : List ℕ → ℕ
first [] = 0
first (c ∷ cs) = c

abbrev pub rest : List ℕ → List ℕ
rest [] = []
rest (c ∷ cs) = cs

-- nothing, or a byte that is neither a digit nor a minus nor a letter comes first
abbrev pub Ends : List ℕ → Type 0
Ends r = IsTrue (nat_lt (first r) 45)

-- different numbers aren't equal
pub apart : {A : Type 0} {m n : ℕ} → m ≡ n → nat_eq m n ≡ false → A
apart {A} {m} {n} e d = absurd (eqb-false m n d e)

-- the first byte of a number isn't one that ends it
no_end : (c : ℕ) → digit_value c < 10 → IsTrue (nat_lt c 45) → ⊥
no_end c d e = let h = digit_from_value c d in grind (arith, nat_tests)

pub split : (ds es r s : List ℕ) → AllDigits 10 ds → AllDigits 10 es → ds ++ r ≡ es ++ s → Ends r → Ends s → (ds ≡ es) × (r ≡ s)
split [] [] r s da db e er es = (refl, e)
split [] (b ∷ bs) r s da db e er es = absurd (no_end b db.0 (subst (λ c. IsTrue (nat_lt c 45)) (ap first e) er))
split (a ∷ ds) [] r s da db e er es = absurd (no_end a da.0 (subst (λ c. IsTrue (nat_lt c 45)) (sym (ap first e)) es))
split (a ∷ ds) (b ∷ bs) r s da db e er es = let h = split ds bs r s da.1 db.1 (ap rest e) er es in (ap (λ c. c ∷ ds) (ap first e) ∙ ap (λ cs. b ∷ cs) h.0, h.1)

glyph : (d : ℕ) → d < 10 → digit_value (digit_glyph false d) ≡ d
glyph d l = grind (arith, nat_tests)

last_digit : (n : ℕ) → n % 10 < 10
last_digit n = omega arith

if_case : (P : List ℕ → Type 0) (b : Bool) (x y : List ℕ) → (b ≡ true → P x) → (b ≡ false → P y) → P (if b then x else y)
if_case P true x y t f = t refl
if_case P false x y t f = f refl

onto_digits : (k n : ℕ) (ds : List ℕ) → AllDigits 10 ds → AllDigits 10 (digits_onto k 10 false n ds)
onto_digits zero n ds h = h
onto_digits (suc k) n ds h = let d : AllDigits 10 (digit_glyph false (n % 10) ∷ ds) = (subst (λ v. v < 10) (sym (glyph (n % 10) (last_digit n))) (last_digit n), h) in
    if_case (AllDigits 10) (n / 10 == 0) (digit_glyph false (n % 10) ∷ ds) (digits_onto k 10 false (n / 10) (digit_glyph false (n % 10) ∷ ds)) (λ e. d) (λ e. onto_digits k (n / 10) (digit_glyph false (n % 10) ∷ ds) d)

-- a digit written before others
written : (n m : ℕ) (ds : List ℕ) → m * 10 + n % 10 ≡ n → digits_value_after 10 m (digit_glyph false (n % 10) ∷ ds) ≡ digits_value_after 10 n ds
written n m ds e = ap (λ v. digits_value_after 10 v ds) (ap (λ v. m * 10 + v) (glyph (n % 10) (last_digit n)) ∙ e)

no_front : (n : ℕ) → n / 10 ≡ 0 → 0 * 10 + n % 10 ≡ n
no_front n e = omega arith

one_more : (k : ℕ) → suc k ≡ 1 + k
one_more k = omega arith

power_more : (k : ℕ) → 10 ^ (suc k) ≡ 10 * 10 ^ k
power_more k = ap (λ j. 10 ^ j) (one_more k) ∙ pow-add 10 1 k

below_ten : (n : ℕ) → n < 10 ^ 1 → n / 10 ≡ 0
below_ten n l = omega arith

fewer : (n k : ℕ) → n < 10 ^ suc (suc k) → n / 10 < 10 ^ suc k
fewer n k l = let e = power_more (suc k) in omega arith

onto_value : (k n : ℕ) (ds : List ℕ) → n < 10 ^ (suc k) → digits_value 10 (digits_onto (suc k) 10 false n ds) ≡ digits_value_after 10 n ds
onto_value zero n ds l = let g = digit_glyph false (n % 10) ∷ ds in
    if_case (λ s. digits_value 10 s ≡ digits_value_after 10 n ds) (n / 10 == 0) g g (λ e. written n 0 ds (no_front n (below_ten n l))) (λ e. written n 0 ds (no_front n (below_ten n l)))
onto_value (suc k) n ds l = let g = digit_glyph false (n % 10) ∷ ds in
    if_case (λ s. digits_value 10 s ≡ digits_value_after 10 n ds) (n / 10 == 0) g (digits_onto (suc k) 10 false (n / 10) g) (λ e. written n 0 ds (no_front n (eqb-true (n / 10) 0 e)))
    (λ e. onto_value k (n / 10) g (fewer n k l) ∙ written n (n / 10) ds (omega arith))

power_grows : (q : ℕ) → q + 1 ≤ 10 ^ q
power_grows zero = omega arith
power_grows (suc q) = let h = power_grows q in let e = power_more q in omega arith

below : (n q p : ℕ) → q ≡ n / 10 ^ 64 → q + 1 ≤ p → n < 10 ^ 64 * p
below n q p e l = omega arith

places : (n : ℕ) → n < 10 ^ (64 + n / 10 ^ 64)
places n = let q = n / 10 ^ 64 in subst (λ p. n < p) (sym (pow-add 10 64 q)) (below n q (10 ^ q) refl (power_grows q))

value_of : (k j n : ℕ) → j ≡ suc k → n < 10 ^ j → digits_value 10 (digits_onto j 10 false n []) ≡ n
value_of k j n e l = subst (λ i. n < 10 ^ i → digits_value 10 (digits_onto i 10 false n []) ≡ n) (sym e) (onto_value k n []) l

pub long_digits : (n : ℕ) → AllDigits 10 (number_text n)
long_digits n = onto_digits (64 + n / 10 ^ 64) n [] tt

pub long_value : (n : ℕ) → digits_value 10 (number_text n) ≡ n
long_value n = value_of (63 + n / 10 ^ 64) (64 + n / 10 ^ 64) n (omega arith) (places n)

-- such numbers tell themselves, without a bound
pub decimal_reads : (m n : ℕ) (r s : List ℕ) → number_text m ++ r ≡ number_text n ++ s → Ends r → Ends s → (m ≡ n) × (r ≡ s)
decimal_reads m n r s e er es = let h = split (number_text m) (number_text n) r s (long_digits m) (long_digits n) e er es in
    (sym (long_value m) ∙ ap (digits_value 10) h.0 ∙ long_value n, h.1)

nonempty : (k n : ℕ) (ds : List ℕ) → 0 < length ds → 0 < length (digits_onto k 10 false n ds)
nonempty zero n ds h = h
nonempty (suc k) n ds h = if_case (λ s. 0 < length s) (n / 10 == 0) (digit_glyph false (n % 10) ∷ ds) (digits_onto k 10 false (n / 10) (digit_glyph false (n % 10) ∷ ds)) (λ e. omega arith) (λ e. nonempty k (n / 10) (digit_glyph false (n % 10) ∷ ds) (omega arith))

some_digits : (k j n : ℕ) → j ≡ suc k → 0 < length (digits_onto j 10 false n [])
some_digits k j n e = subst (λ i. 0 < length (digits_onto i 10 false n [])) (sym e)
    (if_case (λ s. 0 < length s) (n / 10 == 0) (digit_glyph false (n % 10) ∷ []) (digits_onto k 10 false (n / 10) (digit_glyph false (n % 10) ∷ [])) (λ e. omega arith) (λ e. nonempty k (n / 10) (digit_glyph false (n % 10) ∷ []) (omega arith)))

pub numeral : (n : ℕ) → IsNumeral 10 (number_text n)
numeral n = (some_digits (63 + n / 10 ^ 64) (64 + n / 10 ^ 64) n (omega arith), long_digits n)

-- a numeral doesn't begin with a minus
no_minus : (ds r s : List ℕ) → IsNumeral 10 ds → ds ++ r ≡ 45 ∷ s → ⊥
no_minus [] r s h e = omega (arith, h.0)
no_minus (d ∷ ds) r s h e = let k = digit_from_value d h.1.0 in let i = ap first e in omega arith

suc_same : (m n : ℕ) → suc m ≡ suc n → m ≡ n
suc_same m n e = omega arith

pub signed_reads : (m n : ℤ) (r s : List ℕ) → signed_text m ++ r ≡ signed_text n ++ s → Ends r → Ends s → (m ≡ n) × (r ≡ s)
signed_reads (pos m) (pos n) r s e er es = let h = decimal_reads m n r s e er es in (ap pos h.0, h.1)
signed_reads (pos m) (negsuc n) r s e er es = absurd (no_minus (number_text m) r _ (numeral m) e)
signed_reads (negsuc m) (pos n) r s e er es = absurd (no_minus (number_text n) s _ (numeral n) (sym e))
signed_reads (negsuc m) (negsuc n) r s e er es = let h = decimal_reads (suc m) (suc n) r s (ap rest e) er es in (ap negsuc (suc_same m n h.0), h.1)
