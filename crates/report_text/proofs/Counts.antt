-- How often a byte stands in a text.
use Rattle.std.proofs.Common.{◌≡◌, ◌∙◌, ℕ, zero, suc, ◌+◌, ◌/◌, ◌%◌, ◌==◌, arith, nat_eq, nat_lt, Bool, true, false, cond, if◌then◌else◌, List, [], ◌∷◌, ◌++◌, decimal, refl, sym, ap}
use Rattle.std.proofs.lemmas.Bool.Decides.{nat_tests}
use Rattle.std.specs.Fmt.{digits, digits_onto, digit_glyph}
use Rattle.bv_base.specs.Text.{line_feed, count}

pub count_append : (c : ℕ) (xs ys : List ℕ) → count c (xs ++ ys) ≡ count c xs + count c ys
count_append c [] ys = omega arith
count_append c (x ∷ xs) ys = let rest = count_append c xs ys in omega (arith, rest)

no_feed : (k d : ℕ) → nat_eq (48 + k + d) line_feed ≡ false
no_feed k d = grind (arith, nat_tests)

-- a digit is no line feed
glyph_is_none : (d : ℕ) → count line_feed (digit_glyph false d ∷ []) ≡ 0
glyph_is_none d = by_size (nat_lt d 10)
  where
    by_size : (small : Bool) → count line_feed ((if small then 48 + d else (if false then 55 + d else 87 + d)) ∷ []) ≡ 0
    by_size true = ap (λ b. cond b 1 0 + 0) (no_feed 0 d)
    by_size false = ap (λ b. cond b 1 0 + 0) (no_feed 39 d)

digits_have_none : (k n : ℕ) (acc : List ℕ) → count line_feed acc ≡ 0 → count line_feed (digits_onto k 10 false n acc) ≡ 0
digits_have_none zero n acc h = h
digits_have_none (suc k) n acc h = by_last (digits_have_none k (n / 10) (digit_glyph false (n % 10) ∷ acc)) (n / 10 == 0)
  where
    longer : count line_feed (digit_glyph false (n % 10) ∷ acc) ≡ 0
    longer = let e = glyph_is_none (n % 10) in omega (arith, e, h)

    by_last : (count line_feed (digit_glyph false (n % 10) ∷ acc) ≡ 0 → count line_feed (digits_onto k 10 false (n / 10) (digit_glyph false (n % 10) ∷ acc)) ≡ 0) → (last : Bool) → count line_feed (if last then digit_glyph false (n % 10) ∷ acc else digits_onto k 10 false (n / 10) (digit_glyph false (n % 10) ∷ acc)) ≡ 0
    by_last more true = longer
    by_last more false = more longer

pub decimal_has_none : (n : ℕ) → count line_feed (decimal n) ≡ 0
unfolding digits
decimal_has_none n = digits_have_none 64 n [] refl
