-- Tokens in order begin one after another.
use Rattle.std.specs.Prelude.{◌≡◌, ℕ, ◌≤◌, List, [], ◌∷◌, length, slice_get, Some, unwrap_or}
use Rattle.std.proofs.Common.{ap, arith}
use Rattle.bpl_lex.specs.Token.{Token}
use Rattle.bpl_lex.specs.Spelled.{AreInOrder}
use Rattle.bpl_grammar.specs.ReadPrograms.{start_of}
use Rattle.bpl_parse.specs.InText.{StandIn, AreRising}

in_order_rise : (low from upto : ℕ) (ts : List Token) → low ≤ from → AreInOrder from upto ts → AreRising low ts
in_order_rise low from upto [] h o = tt
in_order_rise low from upto (t ∷ ts) h o = (omega (arith, o.0), in_order_rise t.start t.finish upto ts (omega (arith, o.1)) o.2)

pub stand_rising : (bytes : List ℕ) (ts : List Token) → StandIn bytes ts → AreRising (start_of ts) ts
stand_rising bytes [] s = tt
stand_rising bytes (t ∷ ts) s =
    let o = s.in_order in
    (omega arith, in_order_rise t.start t.finish (length bytes) ts (omega (arith, o.1)) o.2)

pub first_rises : (low : ℕ) (t : Token) (ts : List Token) → Some t ≡ slice_get ts 0 → AreRising low ts → low ≤ t.start
first_rises low t [] e r = absurd (cc)
first_rises low t (u ∷ us) e r =
    let same : t ≡ u = ap (λ o. unwrap_or o t) e in
    rw same r.0
