-- The token that begins at a byte of a text, or stands at a place of it.
use Rattle.std.specs.Prelude.{ℕ, nat_eq, Bool, ◌&&◌, List, find, codes, Option, Some, None, Result, Ok, Err}
use Rattle.bv_base.specs.declared.place.Place.{Place}
use Rattle.bv_base.specs.Place.{place_at}
use Rattle.bpl_lex.specs.Token.{Token, text_of}
use Rattle.bpl_lex.specs.Lexing.{tokens}

-- what is written where there is no word
abbrev pub no_word : List ℕ
no_word = codes "-"

abbrev pub begins_at : ℕ → Token → Bool
begins_at at t = nat_eq t.start at

abbrev pub same_place : Place → Place → Bool
same_place p q = nat_eq p.line q.line && nat_eq p.col q.col

-- lines and columns count from the text's first byte
abbrev pub stands_at : List ℕ → Place → Token → Bool
stands_at text place t = same_place (place_at text 0 t.start) place

abbrev pub word_of : List ℕ → Option Token → List ℕ
word_of text None = no_word
word_of text (Some t) = text_of text t

-- of the first such token its text
abbrev pub word_where : (Token → Bool) → List ℕ → List Token → List ℕ
word_where is text ts = word_of text (find is ts)

-- where not all of the text is tokens, there is no word
abbrev pub word_in : (Token → Bool) → List ℕ → Result (List Token) ℕ → List ℕ
word_in is text (Err at) = no_word
word_in is text (Ok ts) = word_where is text ts

abbrev pub word_at_byte : List ℕ → ℕ → List ℕ
word_at_byte text at = word_in (begins_at at) text (tokens text)

abbrev pub word_at_place : List ℕ → Place → List ℕ
word_at_place text place = word_in (stands_at text place) text (tokens text)
