-- The digits of a number, one after another.
use Rattle.std.proofs.Common.{◌≡◌, ℕ, ◌+◌, ◌-◌, ◌*◌, ◌^◌, ◌<◌, ◌≤◌, true, false, suc, List, length, get_or, drop, refl, sym, ◌∙◌, arith, ◌==◌, Some}
use Rattle.std.specs.Char.{is_ascii_digit, digit_value}
use Rattle.std.specs.List.{list_all}
use Rattle.std.specs.Str.Parse.{digits_value, digits_value_after}
use Rattle.std.proofs.Math.Nat.{pow-suc, pow-le-pow_right}
use Rattle.std.proofs.lemmas.List.{at_drop_all, at_drop_more}
use Rattle.std.proofs.lemmas.Bool.Decides.{nat_tests}
use Rattle.command_words.specs.Numbers.{number_of}

-- ten digits at most have nine before the last
pub nine_digits : (i : ℕ) → i ≤ 9 → 10 ^ i ≤ 1000000000
nine_digits i h = pow-le-pow_right {n = 10} (omega arith) h

pub digit_fits : (i n d : ℕ) → n < 10 ^ i → d ≤ 57 → 10 * n + (d - 48) < 10 ^ (i + 1)
digit_fits i n d h k =
    let s : i + 1 ≡ suc i = omega arith in
    let e : 10 ^ suc i ≡ 10 ^ i * 10 = pow-suc 10 i in
    rw (s, e) (omega arith)

digit_is : (d : ℕ) → 48 ≤ d → d ≤ 57 → digit_value d ≡ d - 48
digit_is d h k = grind (arith, nat_tests)

pub digits_more : (xs : List ℕ) (i : ℕ) → i < length xs → is_ascii_digit (get_or xs i 0) ≡ true
    → list_all is_ascii_digit (drop (i + 1) xs) ≡ list_all is_ascii_digit (drop i xs)
digits_more xs i lt is = sym (at_drop_more (list_all is_ascii_digit) xs i 0 lt ∙ rw is refl)

pub no_digits : (xs : List ℕ) (i : ℕ) → i < length xs → is_ascii_digit (get_or xs i 0) ≡ false → list_all is_ascii_digit (drop i xs) ≡ false
no_digits xs i lt is = at_drop_more (list_all is_ascii_digit) xs i 0 lt ∙ rw is refl

pub value_more : (xs : List ℕ) (i n : ℕ) → i < length xs → 48 ≤ get_or xs i 0 → get_or xs i 0 ≤ 57
    → digits_value_after 10 (10 * n + (get_or xs i 0 - 48)) (drop (i + 1) xs) ≡ digits_value_after 10 n (drop i xs)
value_more xs i n lt h k =
    let is : digit_value (get_or xs i 0) ≡ get_or xs i 0 - 48 = digit_is (get_or xs i 0) h k in
    let sum : 10 * n + (get_or xs i 0 - 48) ≡ n * 10 + digit_value (get_or xs i 0) = rw is (omega arith) in
    rw sum (sym (at_drop_more (digits_value_after 10 n) xs i 0 lt))

-- at the end of a text with one to ten characters
pub all_read : (xs : List ℕ) (i n : ℕ) → length xs ≤ i → false ≡ (length xs == 0) → length xs ≤ 10
    → list_all is_ascii_digit (drop i xs) ≡ list_all is_ascii_digit xs → digits_value_after 10 n (drop i xs) ≡ digits_value 10 xs
    → Some n ≡ number_of xs
all_read xs i n past some ten digits value =
    let all : list_all is_ascii_digit xs ≡ true = sym digits ∙ at_drop_all (list_all is_ascii_digit) xs i past in
    let is : digits_value 10 xs ≡ n = sym value ∙ at_drop_all (digits_value_after 10 n) xs i past in
    grind (arith, nat_tests)
