-- The tokens that a text spells lie in it.
use Rattle.std.specs.Prelude.{ℕ, ◌≤◌, List, [], ◌∷◌, length}
use Rattle.std.proofs.Common.{arith}
use Rattle.bpl_lex.specs.Token.{Token}
use Rattle.bpl_lex.specs.Spelled.{AreInOrder, Spells}
use Rattle.bpl_parse.specs.InText.{LieIn}

pub ends_there : (from upto : ℕ) (ts : List Token) → AreInOrder from upto ts → from ≤ upto
ends_there from upto [] h = h
ends_there from upto (t ∷ ts) h = omega (arith, h.0, h.1, ends_there t.finish upto ts h.2)

pub lie_in : (text : List ℕ) (low from : ℕ) (ts : List Token) → low ≤ from → AreInOrder from (length text) ts → Spells text from ts → LieIn text low ts
lie_in text low from [] h o s = tt
lie_in text low from (t ∷ ts) h o s = (
  record { from_there = omega (arith, o.0); in_order = omega (arith, o.1); to_there = ends_there t.finish (length text) ts o.2; spelled = s.1 },
  lie_in text low t.finish ts (omega (arith, o.0, o.1)) o.2 s.2,
)
