-- Lexemes that are the tokens of the canonical text.
use Rattle.std.specs.Prelude.{ℕ, List, [], ◌∷◌, Option, Some, None}
use Rattle.bv_base.specs.declared.place.Place.{Place}
use Rattle.bpl_lex.specs.Token.{Kind, sign}
use Rattle.bpl_lex.specs.Shape.{kind_of}
use Rattle.canonical_text.specs.Glyph.{Glyph}
use Rattle.bpl_grammar.specs.Lexeme.{Lexeme}

abbrev known : Option Kind → Kind
known (Some k) = k
known None = sign

-- the kind of the bytes, where they are a token
abbrev pub kind_in : List ℕ → Kind
kind_in bytes = known (kind_of bytes)

abbrev pub token : Place → Glyph → Lexeme
token p g = record { kind = kind_in g.text; spelling = g.text; place = p }

-- a front of the lexemes is these tokens, at whatever places, and us is the rest
pub data Spelled : List Glyph → List Lexeme → List Lexeme → Type 0 where
  done : {us : List Lexeme} → Spelled [] us us
  next : {g : Glyph} {gs : List Glyph} {ls us : List Lexeme} → (p : Place) → Spelled gs ls us → Spelled (g ∷ gs) (token p g ∷ ls) us
