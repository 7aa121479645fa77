-- Tokens in order, with blanks and comments around them, make up a text.
use Rattle.std.specs.Prelude.{◌≡◌, ℕ, ◌<◌, ◌≤◌, List, [], ◌∷◌, ◌++◌, drop, Some}
use Rattle.bpl_lex.specs.Token.{Token, slice, text_of}
use Rattle.bpl_lex.specs.Shape.{blank, comment, piece_of, kind_of}

-- the tokens stand one after another, none of them empty, from one place up to another
abbrev pub AreInOrder : ℕ → ℕ → List Token → Type 0
AreInOrder from upto [] = from ≤ upto
AreInOrder from upto (t ∷ ts) = (from ≤ t.start) × (t.start < t.finish) × AreInOrder t.finish upto ts

-- blanks and comments, one after another
pub data IsSpacing : List ℕ → Type 0 where
  nothing : IsSpacing []
  and_blank : (bytes last : List ℕ) → IsSpacing bytes → piece_of last ≡ Some blank → IsSpacing (bytes ++ last)
  and_comment : (bytes last : List ℕ) → IsSpacing bytes → piece_of last ≡ Some comment → IsSpacing (bytes ++ last)

-- from a place on the text is these tokens, each of its kind, with blanks and comments around them
abbrev pub Spells : List ℕ → ℕ → List Token → Type 0
Spells text at [] = IsSpacing (drop at text)
Spells text at (t ∷ ts) = IsSpacing (slice text at t.start) × (kind_of (text_of text t) ≡ Some t.kind) × Spells text t.finish ts
