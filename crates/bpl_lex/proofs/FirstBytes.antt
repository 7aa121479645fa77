-- Which first bytes exclude which kinds.
use Rattle.std.specs.Prelude.{◌≡◌, ℕ, Bool, true, false, ◌&&◌, ◌||◌, nat_eq, nat_le, List, [], ◌∷◌, codes, bytes_eq}
use Rattle.std.specs.List.{list_any}
use Rattle.std.proofs.Common.{refl, ap, sym, ◌∙◌, arith}
use Rattle.std.proofs.lemmas.Bool.Decides.{nat_tests, Decides-eqb}
use Rattle.bv_base.specs.Text.{is_among}
use Rattle.bpl_lex.specs.Shape.{is_blank_byte, is_letter, is_digit}

-- a test is not both true and false
not_both : {A : Type 0} (x : Bool) → x ≡ true → x ≡ false → A
not_both x h i = absurd (cc)

-- a test that is not true is false
pub false_from : (x : Bool) → (x ≡ true → ⊥) → x ≡ false
false_from true h = absurd (h refl)
false_from false h = refl

-- where one test or the other is false, both are
or_false : (x y : Bool) → (x || y) ≡ false → (x ≡ false) × (y ≡ false)
or_false true y h = absurd (cc)
or_false false y h = (refl, h)

-- a byte that passes a test is none that fails it
pub differs : (P : ℕ → Bool) (b c : ℕ) → P b ≡ true → P c ≡ false → nat_eq b c ≡ false
differs P b c h i = false_from (nat_eq b c) (λ e. not_both (P c) (ap P (sym ((Decides-eqb b c).0 e)) ∙ h) i)

-- the same, the other way round
pub differs' : (P : ℕ → Bool) (b c : ℕ) → P b ≡ true → P c ≡ false → nat_eq c b ≡ false
differs' P b c h i = false_from (nat_eq c b) (λ e. not_both (P c) (ap P ((Decides-eqb c b).0 e) ∙ h) i)

-- a byte that passes a test is none of these, which fail it
differs_all : (P : ℕ → Bool) (b : ℕ) (cs : List ℕ) → P b ≡ true → list_any P cs ≡ false → list_any (nat_eq b) cs ≡ false
differs_all P b [] h i = refl
differs_all P b (c ∷ cs) h i =
    let parts = or_false (P c) (list_any P cs) i in
    λ j. differs P b c h parts.0 j || differs_all P b cs h parts.1 j

-- whether the first byte passes the test
abbrev pub first_passes : (ℕ → Bool) → List ℕ → Bool
first_passes P [] = false
first_passes P (c ∷ cs) = P c

-- a text is none of these, where their first bytes fail a test that its first byte passes
pub not_among : (P : ℕ → Bool) (b : ℕ) (bytes : List ℕ) (texts : List (List ℕ)) → P b ≡ true → list_any (first_passes P) texts ≡ false → is_among texts (b ∷ bytes) ≡ false
not_among P b bytes [] h i = refl
not_among P b bytes ([] ∷ texts) h i = not_among P b bytes texts h i
not_among P b bytes ((c ∷ cs) ∷ texts) h i =
    let parts = or_false (P c) (list_any (first_passes P) texts) i in
    λ j. differs P b c h parts.0 j && bytes_eq bytes cs || not_among P b bytes texts h parts.1 j

-- a digit is no capital letter
no_upper : (b : ℕ) → is_digit b ≡ true → (nat_le 65 b && nat_le b 90) ≡ false
no_upper b h = grind (arith, nat_tests)

-- a digit is no small letter
no_lower : (b : ℕ) → is_digit b ≡ true → (nat_le 97 b && nat_le b 122) ≡ false
no_lower b h = grind (arith, nat_tests)

-- a digit begins no identifier
pub digit_no_letter : (b : ℕ) → is_digit b ≡ true → is_letter b ≡ false
digit_no_letter b h = λ i. no_upper b h i || no_lower b h i || differs_all is_digit b (codes "'~#$^_.?`") h refl i

-- a byte that begins an identifier is no digit
pub letter_no_digit : (b : ℕ) → is_letter b ≡ true → is_digit b ≡ false
letter_no_digit b h = false_from (is_digit b) (λ d. not_both (is_letter b) h (digit_no_letter b d))

-- and no blank
pub letter_no_blank : (b : ℕ) → is_letter b ≡ true → is_blank_byte b ≡ false
letter_no_blank b h = λ i. differs is_letter b 32 h refl i || differs is_letter b 9 h refl i || differs is_letter b 13 h refl i || differs is_letter b 10 h refl i
