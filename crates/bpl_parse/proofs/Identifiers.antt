-- Identifiers are made of ASCII, so they are UTF-8.
use Rattle.std.specs.Prelude.{◌≡◌, ℕ, zero, suc, ◌<◌, Bool, true, false, ◌&&◌, ◌||◌, List, [], ◌∷◌, IsTrue, Option, Some, None, if◌then◌else◌, slice_get, unwrap_or}
use Rattle.std.specs.List.{list_all}
use Rattle.std.specs.Str.{IsAscii, IsUtf8}
use Rattle.std.proofs.Common.{refl, arith, ap}
use Rattle.std.proofs.lemmas.Str.{IsUtf8-from_ascii}
use Rattle.std.proofs.lemmas.Grind.{common_steps}
use Rattle.bpl_grammar.proofs.Booleans.{and_first, and_second}
use Rattle.bpl_lex.specs.Token.{Kind, id, number, text, sign, Token}
use Rattle.bpl_parse.specs.InText.{LiesIn, LieIn}
use Rattle.bpl_lex.specs.Shape.{kind_of, is_identifier, is_letter, is_digit, is_number, is_string, is_sign}

is_ascii_letter : (b : ℕ) → IsTrue (is_letter b || is_digit b) → b < 128
is_ascii_letter b h = grind (arith, common_steps)

all_ascii : (bs : List ℕ) → IsTrue (list_all (λ c. is_letter c || is_digit c) bs) → IsAscii bs
all_ascii [] h = λ i. omega arith
all_ascii (b ∷ bs) h = at (all_ascii bs (and_second (is_letter b || is_digit b) _ h))
  where
    at : IsAscii bs → IsAscii (b ∷ bs)
    at g zero = is_ascii_letter b (and_first (is_letter b || is_digit b) _ h)
    at g (suc i) = g i

picked : (a n s g : Bool) (w : Kind) → ◌≡◌ {A = Option Kind} (if a then Some w else if n then Some number else if s then Some text else if g then Some sign else None) (Some id) → IsTrue a
picked true n s g w h = refl
picked false true s g w h = absurd (cc)
picked false false true g w h = absurd (cc)
picked false false false true w h = absurd (cc)
picked false false false false w h = absurd (cc)

both : (a b c : Bool) → IsTrue (a && c) → IsTrue ((a || b) && c)
both true b c h = h
both false b c h = absurd (cc)

is_ascii : (bs : List ℕ) → IsTrue (is_identifier bs) → IsAscii bs
is_ascii [] h = absurd (cc)
is_ascii (b ∷ bs) h = all_ascii (b ∷ bs) (both (is_letter b) (is_digit b) _ h)

pub identifiers_are_text : (bs : List ℕ) → kind_of bs ≡ Some id → IsUtf8 bs
identifiers_are_text bs h = IsUtf8-from_ascii bs (is_ascii bs (picked (is_identifier bs) (is_number bs) (is_string bs) (is_sign bs) _ h))

-- the first of the tokens that lie in a text
pub first_lies : (bytes : List ℕ) (from : ℕ) (t : Token) (ts : List Token) → Some t ≡ slice_get ts 0 → LieIn bytes from ts → LiesIn bytes from t
first_lies bytes from t [] e h = absurd (cc)
first_lies bytes from t (u ∷ us) e h =
    let same : t ≡ u = ap (λ r. unwrap_or r t) e in
    rw same h.0
