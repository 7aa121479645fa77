-- Tokens as the grammar sees them: with their texts, and with their places.
use Rattle.std.specs.Prelude.{ℕ, List, map, bytes_eq, Bool, true, false, ◌&&◌}
use Rattle.bv_base.specs.declared.place.Place.{Place}
use Rattle.bv_base.specs.Place.{place_at}
use Rattle.bpl_lex.specs.Token.{Kind, id, number, text, sign, word, Token, text_of}

pub record Lexeme : Type 0 where
  pub kind : Kind
  pub spelling : List ℕ
  pub place : Place

-- a token of the text, where places count from this byte
abbrev pub lexeme : List ℕ → ℕ → Token → Lexeme
lexeme bytes from t = record { kind = t.kind; spelling = text_of bytes t; place = place_at bytes from t.start }

abbrev pub lexemes : List ℕ → ℕ → List Token → List Lexeme
lexemes bytes from ts = map (lexeme bytes from) ts

abbrev pub same_kind : Kind → Kind → Bool
same_kind id id = true
same_kind number number = true
same_kind text text = true
same_kind sign sign = true
same_kind word word = true
same_kind k l = false

-- whether the token is of the kind
abbrev pub is_kind : Kind → Lexeme → Bool
is_kind k t = same_kind k t.kind

-- words and signs stand for themselves
abbrev pub is_fixed : Kind → Bool
is_fixed sign = true
is_fixed word = true
is_fixed k = false

-- whether the token is this word or sign
abbrev pub reads : List ℕ → Lexeme → Bool
reads spelling t = is_fixed t.kind && bytes_eq spelling t.spelling
