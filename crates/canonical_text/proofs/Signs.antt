-- The signs of the canonical text.
use Rattle.std.specs.Prelude.{◌≡◌, ℕ, Bool, true, false, nat_eq, codes, List, [], ◌∷◌, ◌++◌, Some, None}
use Rattle.std.proofs.Common.{refl, arith}
use Rattle.bpl_grammar.proofs.Booleans.{and_parts}
use Rattle.bpl_lex.specs.Token.{id, number as number_kind, sign}
use Rattle.bpl_lex.specs.Shape.{is_letter, is_digit, is_identifier, is_number, kind_of, piece_of}
use Rattle.bpl_lex.proofs.FirstBytes.{differs}
use Rattle.canonical_text.specs.Glyph.{Glyph, plain, word, opening, closing, prefix, index}
use Rattle.canonical_text.specs.Lexed.{IsAlone, round, square, comma, semicolon, colon, index as index_end, IsTight, IsNarrow}
use Rattle.canonical_text.proofs.LexLines.{alone_by}
use Rattle.canonical_text.proofs.Alone.{not_tight, IsLoose, no_number_kind, loose_sign, loose_closing, name_identifier, number_digits}
use Prim.Native.String.{String}

pub iff_loose : IsLoose (word "<==>")
iff_loose = loose_sign "<==>" (omega arith) refl refl (λ xs. refl) (record { space = λ xs. refl; feed = λ xs. refl; round = λ xs. refl; square = λ xs. refl; comma = λ xs. refl; semicolon = λ xs. refl; colon = λ xs. refl; index = λ xs. refl })

pub implies_loose : IsLoose (word "==>")
implies_loose = loose_sign "==>" (omega arith) refl refl (λ xs. refl) (record { space = λ xs. refl; feed = λ xs. refl; round = λ xs. refl; square = λ xs. refl; comma = λ xs. refl; semicolon = λ xs. refl; colon = λ xs. refl; index = λ xs. refl })

pub and_loose : IsLoose (word "&&")
and_loose = loose_sign "&&" (omega arith) refl refl (λ xs. refl) (record { space = λ xs. refl; feed = λ xs. refl; round = λ xs. refl; square = λ xs. refl; comma = λ xs. refl; semicolon = λ xs. refl; colon = λ xs. refl; index = λ xs. refl })

pub or_loose : IsLoose (word "||")
or_loose = loose_sign "||" (omega arith) refl refl (λ xs. refl) (record { space = λ xs. refl; feed = λ xs. refl; round = λ xs. refl; square = λ xs. refl; comma = λ xs. refl; semicolon = λ xs. refl; colon = λ xs. refl; index = λ xs. refl })

pub eq_loose : IsLoose (word "==")
eq_loose = loose_sign "==" (omega arith) refl refl (λ xs. refl) (record { space = λ xs. refl; feed = λ xs. refl; round = λ xs. refl; square = λ xs. refl; comma = λ xs. refl; semicolon = λ xs. refl; colon = λ xs. refl; index = λ xs. refl })

pub ne_loose : IsLoose (word "!=")
ne_loose = loose_sign "!=" (omega arith) refl refl (λ xs. refl) (record { space = λ xs. refl; feed = λ xs. refl; round = λ xs. refl; square = λ xs. refl; comma = λ xs. refl; semicolon = λ xs. refl; colon = λ xs. refl; index = λ xs. refl })

pub le_loose : IsLoose (word "<=")
le_loose = loose_sign "<=" (omega arith) refl refl (λ xs. refl) (record { space = λ xs. refl; feed = λ xs. refl; round = λ xs. refl; square = λ xs. refl; comma = λ xs. refl; semicolon = λ xs. refl; colon = λ xs. refl; index = λ xs. refl })

pub gt_loose : IsLoose (word ">")
gt_loose = loose_sign ">" (omega arith) refl refl (λ xs. refl) (record { space = λ xs. refl; feed = λ xs. refl; round = λ xs. refl; square = λ xs. refl; comma = λ xs. refl; semicolon = λ xs. refl; colon = λ xs. refl; index = λ xs. refl })

pub ge_loose : IsLoose (word ">=")
ge_loose = loose_sign ">=" (omega arith) refl refl (λ xs. refl) (record { space = λ xs. refl; feed = λ xs. refl; round = λ xs. refl; square = λ xs. refl; comma = λ xs. refl; semicolon = λ xs. refl; colon = λ xs. refl; index = λ xs. refl })

pub plus_loose : IsLoose (word "+")
plus_loose = loose_sign "+" (omega arith) refl refl (λ xs. refl) (record { space = λ xs. refl; feed = λ xs. refl; round = λ xs. refl; square = λ xs. refl; comma = λ xs. refl; semicolon = λ xs. refl; colon = λ xs. refl; index = λ xs. refl })

pub minus_loose : IsLoose (word "-")
minus_loose = loose_sign "-" (omega arith) refl refl (λ xs. refl) (record { space = λ xs. refl; feed = λ xs. refl; round = λ xs. refl; square = λ xs. refl; comma = λ xs. refl; semicolon = λ xs. refl; colon = λ xs. refl; index = λ xs. refl })

pub star_loose : IsLoose (word "*")
star_loose = loose_sign "*" (omega arith) refl refl (λ xs. refl) (record { space = λ xs. refl; feed = λ xs. refl; round = λ xs. refl; square = λ xs. refl; comma = λ xs. refl; semicolon = λ xs. refl; colon = λ xs. refl; index = λ xs. refl })

pub bound_loose : IsLoose (word "::")
bound_loose = loose_sign "::" (omega arith) refl refl (λ xs. refl) (record { space = λ xs. refl; feed = λ xs. refl; round = λ xs. refl; square = λ xs. refl; comma = λ xs. refl; semicolon = λ xs. refl; colon = λ xs. refl; index = λ xs. refl })

pub set_loose : IsLoose (word ":=")
set_loose = loose_sign ":=" (omega arith) refl refl (λ xs. refl) (record { space = λ xs. refl; feed = λ xs. refl; round = λ xs. refl; square = λ xs. refl; comma = λ xs. refl; semicolon = λ xs. refl; colon = λ xs. refl; index = λ xs. refl })

pub equals_loose : IsLoose (word "=")
equals_loose = loose_sign "=" (omega arith) refl refl (λ xs. refl) (record { space = λ xs. refl; feed = λ xs. refl; round = λ xs. refl; square = λ xs. refl; comma = λ xs. refl; semicolon = λ xs. refl; colon = λ xs. refl; index = λ xs. refl })

pub open_brace_loose : IsLoose (word "{")
open_brace_loose = loose_sign "{" (omega arith) refl refl (λ xs. refl) (record { space = λ xs. refl; feed = λ xs. refl; round = λ xs. refl; square = λ xs. refl; comma = λ xs. refl; semicolon = λ xs. refl; colon = λ xs. refl; index = λ xs. refl })

pub close_brace_loose : IsLoose (word "}")
close_brace_loose = loose_sign "}" (omega arith) refl refl (λ xs. refl) (record { space = λ xs. refl; feed = λ xs. refl; round = λ xs. refl; square = λ xs. refl; comma = λ xs. refl; semicolon = λ xs. refl; colon = λ xs. refl; index = λ xs. refl })

pub round_loose : IsLoose (closing ")")
round_loose = loose_closing ")" 41 round refl (omega arith) refl refl (λ xs. refl) (record { space = λ xs. refl; feed = λ xs. refl; round = λ xs. refl; square = λ xs. refl; comma = λ xs. refl; semicolon = λ xs. refl; colon = λ xs. refl; index = λ xs. refl })

pub square_loose : IsLoose (closing "]")
square_loose = loose_closing "]" 93 square refl (omega arith) refl refl (λ xs. refl) (record { space = λ xs. refl; feed = λ xs. refl; round = λ xs. refl; square = λ xs. refl; comma = λ xs. refl; semicolon = λ xs. refl; colon = λ xs. refl; index = λ xs. refl })

pub comma_loose : IsLoose (closing ",")
comma_loose = loose_closing "," 44 comma refl (omega arith) refl refl (λ xs. refl) (record { space = λ xs. refl; feed = λ xs. refl; round = λ xs. refl; square = λ xs. refl; comma = λ xs. refl; semicolon = λ xs. refl; colon = λ xs. refl; index = λ xs. refl })

pub semicolon_loose : IsLoose (closing ";")
semicolon_loose = loose_closing ";" 59 semicolon refl (omega arith) refl refl (λ xs. refl) (record { space = λ xs. refl; feed = λ xs. refl; round = λ xs. refl; square = λ xs. refl; comma = λ xs. refl; semicolon = λ xs. refl; colon = λ xs. refl; index = λ xs. refl })

-- signs that a colon would join: a token that is not a closing one follows them

pub record IsSpaced (g : Glyph) : Type 0 where
  pub unglued : g.glued ≡ false
  pub space : (after : List ℕ) → IsAlone g.text (32 ∷ after)
  pub feed : (after : List ℕ) → IsAlone g.text (10 ∷ after)
  pub tight : IsTight g
  pub narrow : IsNarrow g

pub less_spaced : IsSpaced (word "<")
less_spaced = record { unglued = refl; space = λ after. alone_by (codes "<") sign 32 after (omega arith) refl refl (λ xs. refl); feed = λ after. alone_by (codes "<") sign 10 after (omega arith) refl refl (λ xs. refl); tight = not_tight (word "<") refl; narrow = no_number_kind (word "<") sign refl (λ e. cc) }

pub colon_spaced : IsSpaced (closing ":")
colon_spaced = record { unglued = refl; space = λ after. alone_by (codes ":") sign 32 after (omega arith) refl refl (λ xs. refl); feed = λ after. alone_by (codes ":") sign 10 after (omega arith) refl refl (λ xs. refl); tight = λ h. (58, colon, refl); narrow = no_number_kind (closing ":") sign refl (λ e. cc) }

-- signs that nothing joins

pub record IsOpen (g : Glyph) : Type 0 where
  pub alone : (after : List ℕ) → IsAlone g.text after
  pub tight : IsTight g
  pub narrow : IsNarrow g

round_alone : (after : List ℕ) → IsAlone (codes "(") after
round_alone [] = refl
round_alone (c ∷ ys) = alone_by (codes "(") sign c ys (omega arith) refl refl (λ xs. refl)

square_alone : (after : List ℕ) → IsAlone (codes "[") after
square_alone [] = refl
square_alone (c ∷ ys) = alone_by (codes "[") sign c ys (omega arith) refl refl (λ xs. refl)

minus_alone : (after : List ℕ) → IsAlone (codes "-") after
minus_alone [] = refl
minus_alone (c ∷ ys) = alone_by (codes "-") sign c ys (omega arith) refl refl (λ xs. refl)

pub round_open : IsOpen (opening "(")
round_open = record { alone = round_alone; tight = not_tight (opening "(") refl; narrow = no_number_kind (opening "(") sign refl (λ e. cc) }

pub square_open : IsOpen (opening "[")
square_open = record { alone = square_alone; tight = not_tight (opening "[") refl; narrow = no_number_kind (opening "[") sign refl (λ e. cc) }

pub index_open : IsOpen index
index_open = record { alone = square_alone; tight = λ h. (91, index_end, refl); narrow = no_number_kind index sign refl (λ e. cc) }

pub minus_open : IsOpen (prefix (codes "-"))
minus_open = record { alone = minus_alone; tight = not_tight (prefix (codes "-")) refl; narrow = no_number_kind (prefix (codes "-")) sign refl (λ e. cc) }

-- the first token of an expression: a space stands before it, and after `!` it is a token of its own

pub record IsFirst (g : Glyph) : Type 0 where
  pub spaced : g.tight ≡ false
  pub negated : (after : List ℕ) → IsAlone (codes "!") (g.text ++ after)

pub negated_by : (c : ℕ) (ys : List ℕ) → nat_eq c 61 ≡ false → IsAlone (codes "!") (c ∷ ys)
negated_by c ys h = alone_by (codes "!") sign c ys (omega arith) refl refl (λ xs. not_unequal c xs h)
  where
    not_unequal : (c : ℕ) (xs : List ℕ) → nat_eq c 61 ≡ false → piece_of (33 ∷ c ∷ xs) ≡ None
    not_unequal c xs h = rw h refl

pub bang_space : (after : List ℕ) → IsAlone (codes "!") (32 ∷ after)
bang_space after = negated_by 32 after refl

pub bang_feed : (after : List ℕ) → IsAlone (codes "!") (10 ∷ after)
bang_feed after = negated_by 10 after refl

negated_identifier : (w : List ℕ) → is_identifier w ≡ true → (after : List ℕ) → IsAlone (codes "!") (w ++ after)
negated_identifier [] h after = absurd (cc)
negated_identifier (b ∷ bytes) h after = negated_by b (bytes ++ after) (differs is_letter b 61 (and_parts (is_letter b) _ h).0 refl)

negated_number : (w : List ℕ) → is_number w ≡ true → (after : List ℕ) → IsAlone (codes "!") (w ++ after)
negated_number [] h after = absurd (cc)
negated_number (b ∷ bytes) h after = negated_by b (bytes ++ after) (differs is_digit b 61 (and_parts (is_digit b) _ h).0 refl)

pub first_name : (w : List ℕ) (glued : Bool) → kind_of w ≡ Some id → IsFirst (record { text = w; tight = false; glued = glued })
first_name w b h = record { spaced = refl; negated = negated_identifier w (name_identifier w h) }

pub first_number : (w : List ℕ) → kind_of w ≡ Some number_kind → IsFirst (plain w)
first_number w h = record { spaced = refl; negated = negated_number w (number_digits w h) }

pub first_word : (w : String) → is_identifier (codes w) ≡ true → IsFirst (word w)
first_word w h = record { spaced = refl; negated = negated_identifier (codes w) h }

pub first_round : IsFirst (opening "(")
first_round = record { spaced = refl; negated = λ after. negated_by 40 after refl }

pub first_square : IsFirst (opening "[")
first_square = record { spaced = refl; negated = λ after. negated_by 91 after refl }

pub first_less : IsFirst (word "<")
first_less = record { spaced = refl; negated = λ after. negated_by 60 after refl }

pub first_not : IsFirst (prefix (codes "!"))
first_not = record { spaced = refl; negated = λ after. negated_by 33 after refl }

pub first_minus : IsFirst (prefix (codes "-"))
first_minus = record { spaced = refl; negated = λ after. negated_by 45 after refl }
