-- Tokens of a text that are the tokens of the canonical text.
use Rattle.std.specs.Prelude.{◌≡◌, ℕ, ◌<◌, true, ◌||◌, List, [], ◌∷◌, ◌++◌, length, Some}
use Rattle.bpl_lex.specs.Token.{Token, number, text_of}
use Rattle.bpl_lex.specs.Shape.{token, kind_of}
use Rattle.bpl_lex.specs.Lexing.{front}
use Rattle.canonical_text.specs.Glyph.{Glyph, line}
use Rattle.bpl_grammar.specs.Limits.{number_end}
use Rattle.bpl_grammar.specs.Nesting.{value}
use Rattle.canonical_text.specs.Spelled.{kind_in}

-- the tokens have these texts, and their kinds
pub data AreTokens (bytes : List ℕ) : List Glyph → List Token → Type 0 where
  none : AreTokens bytes [] []
  more : {g : Glyph} {t : Token} {gs : List Glyph} {ts : List Token} → t.kind ≡ kind_in g.text → text_of bytes t ≡ g.text → AreTokens bytes gs ts → AreTokens bytes (g ∷ gs) (t ∷ ts)

-- where these bytes stand behind it, the word is a token of its own
abbrev pub IsAlone : List ℕ → List ℕ → Type 0
IsAlone w after = front (w ++ after) ≡ Some (token (kind_in w), length w)

-- bytes that end a token: a blank, a line feed, and the signs with no space before them
pub data IsEnd : ℕ → Type 0 where
  space : IsEnd 32
  feed : IsEnd 10
  round : IsEnd 41
  square : IsEnd 93
  comma : IsEnd 44
  semicolon : IsEnd 59
  colon : IsEnd 58
  index : IsEnd 91

-- the first of the tokens stands without a space behind g, and both are tokens of their own
abbrev pub Joins : Glyph → List Glyph → Type 0
Joins g [] = Unit {0}
Joins g (h ∷ hs) = (g.glued || h.tight) ≡ true → (after : List ℕ) → IsAlone g.text (h.text ++ after)

-- what has no space before it is one byte that ends tokens
abbrev pub IsTight : Glyph → Type 0
IsTight g = g.tight ≡ true → (c : ℕ) × IsEnd c × (g.text ≡ c ∷ [])

-- a number that is not too wide
abbrev pub IsNarrow : Glyph → Type 0
IsNarrow g = kind_of g.text ≡ Some number → value g.text < number_end

-- the tokens of a line, none of which merges with the next
abbrev pub AreApart : List Glyph → Type 0
AreApart [] = Unit {0}
AreApart (g ∷ gs) = ((after : List ℕ) → IsAlone g.text (32 ∷ after)) × ((after : List ℕ) → IsAlone g.text (10 ∷ after)) × IsTight g × Joins g gs × AreApart gs × IsNarrow g

-- lines of such tokens, which are these one after another
pub data AreLines : List (List ℕ) → List Glyph → Type 0 where
  none : AreLines [] []
  more : {ls : List (List ℕ)} {hs : List Glyph} → (indent : ℕ) (gs : List Glyph) → AreApart gs → AreLines ls hs → AreLines (line indent gs ∷ ls) (gs ++ hs)
