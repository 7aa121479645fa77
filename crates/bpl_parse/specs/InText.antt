-- Tokens that lie in a text, each of its kind, and none before a given byte.
use Rattle.std.specs.Prelude.{◌≡◌, ℕ, ◌≤◌, List, [], ◌∷◌, length, Some, ⊤}
use Rattle.std.specs.List.{AllByRecursion}
use Rattle.bpl_lex.specs.Token.{Token, text_of}
use Rattle.bpl_lex.specs.Shape.{kind_of}
use Rattle.bpl_lex.specs.Spelled.{AreInOrder, Spells}

pub record LiesIn (bytes : List ℕ) (from : ℕ) (t : Token) : Type 0 where
  pub from_there : from ≤ t.start
  pub in_order : t.start ≤ t.finish
  pub to_there : t.finish ≤ length bytes
  pub spelled : kind_of (text_of bytes t) ≡ Some t.kind

abbrev pub LieIn : List ℕ → ℕ → List Token → Type 0
LieIn bytes from ts = AllByRecursion (LiesIn bytes from) ts

-- none of the tokens begins before a given byte, or before an earlier one
abbrev pub AreRising : ℕ → List Token → Type 0
AreRising low [] = ⊤
AreRising low (t ∷ ts) = (low ≤ t.start) × AreRising t.start ts

-- the tokens, one after another, are the text from some byte on
pub record StandIn (bytes : List ℕ) (ts : List Token) : Type 0 where
  pub from : ℕ
  pub in_order : AreInOrder from (length bytes) ts
  pub spelled : Spells bytes from ts
