-- Numbers of the canonical text are read back.
use Rattle.std.specs.Prelude.{◌≡◌, ℕ, ◌-◌, ◌<◌, ◌^◌, nat_lt, true, false, codes, decimal, List, [], ◌∷◌, map, length, Ok, Some}
use Rattle.std.specs.List.{list_all}
use Rattle.std.specs.Int.Digits.{number_from_digits}
use Rattle.std.specs.Char.{digit_value}
use Rattle.std.specs.Str.Parse.{AllDigits}
use Rattle.std.proofs.Common.{refl, ap, ◌∙◌, sym, arith}
use Rattle.std.proofs.lemmas.Bool.Decides.{nat_tests}
use Rattle.std.proofs.lemmas.Fmt.{decimal_is_IsNumeral_wide}
use Rattle.std.proofs.lemmas.Int.Digits.{digits_value_is}
use Rattle.std.proofs.lemmas.Str.{digit_value_digit}
use Rattle.std.proofs.lemmas.Str.Parse.{digit_from_value}
use Rattle.bpl_grammar.proofs.Booleans.{none_of as no_two}
use Rattle.bv_base.specs.declared.place.Place.{Place}
use Rattle.bpl_lex.specs.Token.{number as number_kind}
use Rattle.bpl_lex.specs.Shape.{is_digit, kind_of}
use Rattle.bpl_lex.proofs.FirstBytes.{digit_no_letter}
use Rattle.bpl_ast.specs.Tree.{expr, number}
use Rattle.canonical_text.specs.Glyph.{plain}
use Rattle.bpl_grammar.specs.Lexeme.{Lexeme}
use Rattle.bpl_grammar.specs.Nesting.{value}
use Rattle.bpl_grammar.specs.Terminal.{kind, fixed, sees}
use Rattle.bpl_grammar.specs.ReadExpressions.{read_inner, read_number, atom_with}
use Rattle.canonical_text.specs.Spelled.{token, done, next}
use Rattle.canonical_text.proofs.Operands.{NodeReads}

digit_is : (c : ℕ) → digit_value c < 10 → is_digit c ≡ true
digit_is c h = grind (arith, nat_tests, digit_from_value c h)

all_digits : (ds : List ℕ) → AllDigits 10 ds → list_all is_digit ds ≡ true
all_digits [] h = refl
all_digits (c ∷ cs) h = rw (digit_is c h.0) (all_digits cs h.1)

-- the kind of digits
digits_kind : (ds : List ℕ) → AllDigits 10 ds → 0 < length ds → kind_of ds ≡ Some number_kind
digits_kind [] h s = absurd (omega arith)
digits_kind (c ∷ cs) h s = rw (digit_no_letter c (digit_is c h.0), digit_is c h.0, all_digits cs h.1) refl

less_48 : (c : ℕ) → digit_value c < 10 → digit_value c ≡ c - 48
less_48 c h = omega (arith, digit_value_digit c (digit_from_value c h))

digit_values : (ds : List ℕ) → AllDigits 10 ds → map digit_value ds ≡ map (λ d. d - 48) ds
digit_values [] h = refl
digit_values (c ∷ cs) h = λ i. less_48 c h.0 i ∷ digit_values cs h.1 i

bound : (n : ℕ) → n < 2 ^ 127 → n < 10 ^ 64
bound n h = omega arith

pub decimal_kind : (n : ℕ) → n < 2 ^ 127 → kind_of (decimal n) ≡ Some number_kind
decimal_kind n h =
    let d = decimal_is_IsNumeral_wide n (bound n h) in
    digits_kind (decimal n) d.0.1 d.0.0

pub decimal_value : (n : ℕ) → n < 2 ^ 127 → value (decimal n) ≡ n
decimal_value n h =
    let d = decimal_is_IsNumeral_wide n (bound n h) in
    ap (λ ds. number_from_digits 10 ds) (sym (digit_values (decimal n) d.0.1)) ∙ (sym (digits_value_is 10 (decimal n)) ∙ d.1)

-- a token of digits

number_seen : (p : Place) (ds : List ℕ) (us : List Lexeme) → kind_of ds ≡ Some number_kind → sees (kind number_kind) (token p (plain ds) ∷ us) ≡ true
number_seen p ds us h = rw h refl

no_such : (p : Place) (ds : List ℕ) (us : List Lexeme) (w : List ℕ) → kind_of ds ≡ Some number_kind → sees (fixed w) (token p (plain ds) ∷ us) ≡ false
no_such p ds us w h = rw h refl

number_read : (room : ℕ) (p : Place) (ds : List ℕ) (us : List Lexeme) → kind_of ds ≡ Some number_kind → nat_lt (value ds) (2 ^ 127) ≡ true → atom_with room (read_inner room) (token p (plain ds) ∷ us) ≡ Ok (expr p (number (value ds)), us)
unfolding atom_with read_number
number_read room p ds us h k = rw (number_seen p ds us h, k) refl

is_below : (n : ℕ) → n < 2 ^ 127 → nat_lt n (2 ^ 127) ≡ true
is_below n h = grind (arith, nat_tests)

pub number_reads : (n : ℕ) → n < 2 ^ 127 → NodeReads (number n)
number_reads n w s room ls us d c h k (next p done) = record {
  value = expr p (number (value (decimal n)));
  reads = number_read room p (decimal n) us (decimal_kind n w) (ap (λ m. nat_lt m (2 ^ 127)) (decimal_value n w) ∙ is_below n w);
  same = λ i. expr (record { line = 1; col = 1 }) (number (decimal_value n w i));
  unsigned = λ a. no_two _ _ (no_such p (decimal n) us (codes "!") (decimal_kind n w)) (no_such p (decimal n) us (codes "-") (decimal_kind n w));
  unbarred = no_two _ _ (no_two _ _ (no_two _ _ (no_two _ _ (no_two _ _ (no_such p (decimal n) us (codes "forall") (decimal_kind n w)) (no_such p (decimal n) us (codes "exists") (decimal_kind n w))) (no_such p (decimal n) us (codes ")") (decimal_kind n w)))
      (no_such p (decimal n) us (codes ":") (decimal_kind n w))) (no_such p (decimal n) us (codes "*") (decimal_kind n w))) (no_such p (decimal n) us (codes "{") (decimal_kind n w));
}
