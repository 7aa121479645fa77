-- Tokens that stand one after another lie in the text, and so do the last of them.
use Rattle.std.specs.Prelude.{◌≡◌, ℕ, zero, suc, ◌-◌, ◌<◌, ◌≤◌, List, [], ◌∷◌, take, drop, length, slice_get, Some}
use Rattle.std.proofs.Common.{ap, ◌∙◌, arith}
use Rattle.bpl_lex.specs.Token.{Token}
use Rattle.bpl_lex.specs.Lexing.{end_of}
use Rattle.bpl_lex.specs.Spelled.{AreInOrder}
use Rattle.bpl_grammar.specs.ReadPrograms.{start_of}
use Rattle.bpl_parse.specs.InText.{LieIn, StandIn}
use Rattle.bpl_parse.proofs.TokensLie.{ends_there, lie_in}

pub stand_lie : (bytes : List ℕ) (ts : List Token) → StandIn bytes ts → LieIn bytes (start_of ts) ts
stand_lie bytes [] s = tt
stand_lie bytes (t ∷ ts) s =
    let o = s.in_order in (
      record { from_there = omega arith; in_order = omega (arith, o.1); to_there = ends_there t.finish (length bytes) ts o.2; spelled = s.spelled.1 },
      lie_in bytes t.start t.finish ts (omega (arith, o.1)) o.2 s.spelled.2,
    )

pub stand_drop : (bytes : List ℕ) (n : ℕ) (ts : List Token) → StandIn bytes ts → StandIn bytes (drop n ts)
stand_drop bytes zero ts s = s
stand_drop bytes (suc n) [] s = s
stand_drop bytes (suc n) (t ∷ ts) s = stand_drop bytes n ts (record { from = t.finish; in_order = s.in_order.2; spelled = s.spelled.2 })

-- some of the first tokens end behind the beginning of the first, and in the text
ends : (at upto k : ℕ) (t : Token) (ts : List Token) → AreInOrder at upto (t ∷ ts) → (t.start ≤ end_of (t ∷ take k ts)) × (end_of (t ∷ take k ts) ≤ upto)
ends at upto zero t ts o = (omega (arith, o.1), ends_there t.finish upto ts o.2)
ends at upto (suc k) t [] o = (omega (arith, o.1), ends_there t.finish upto [] o.2)
ends at upto (suc k) t (u ∷ us) o =
    let e = ends t.finish upto k u us o.2 in
    (omega (arith, o.1, o.2.0, e.0), e.1)

pub ends_within : (bytes : List ℕ) (n : ℕ) (ts : List Token) → StandIn bytes ts → 0 < length ts → 0 < n → (start_of ts ≤ end_of (take n ts)) × (end_of (take n ts) ≤ length bytes)
ends_within bytes n [] s l h = absurd (omega arith)
ends_within bytes zero (t ∷ ts) s l h = absurd (omega arith)
ends_within bytes (suc n) (t ∷ ts) s l h = ends s.from (length bytes) n t ts s.in_order

-- the last token ends where all of them do
last_at : (u : Token) (ts : List Token) (t : Token) → slice_get (u ∷ ts) (length ts) ≡ Some t → end_of (u ∷ ts) ≡ t.finish
last_at u [] t h = cc
last_at u (v ∷ ts) t h = last_at v ts t h

pub end_of_last : (ts : List Token) (t : Token) → slice_get ts (length ts - 1) ≡ Some t → end_of ts ≡ t.finish
end_of_last [] t h = absurd (cc)
end_of_last (u ∷ ts) t h =
    let e : length ts ≡ suc (length ts) - 1 = omega arith in
    last_at u ts t (ap (slice_get (u ∷ ts)) e ∙ h)
