-- What becomes of tokens that are read as a part: they spell it, or the first fault stands at one of them or at their end.
use Rattle.std.specs.Prelude.{◌≡◌, ℕ, nat_lt, Bool, true, false, not, ◌&&◌, List, [], ◌∷◌, Option, Some, None}
use Rattle.bpl_lex.specs.Token.{number}
use Rattle.bpl_grammar.specs.Lexeme.{Lexeme, is_kind}
use Rattle.bpl_grammar.specs.Part.{Part}
use Rattle.bpl_grammar.specs.Derivative.{empties, left_of}
use Rattle.bpl_grammar.specs.Depth.{depth_of}
use Rattle.bpl_grammar.specs.Nesting.{value}
use Rattle.bpl_grammar.specs.Limits.{nestings, number_end}

pub data Mark : Type 0 where
  syntax deep wide : Mark

-- all is well, or the fault stands at the first of these tokens, or at the end where there is none
pub data Fate : Type 0 where
  fine : Fate
  fails : Mark → List Lexeme → Fate

abbrev pub too_deep : Option ℕ → Bool
too_deep None = false
too_deep (Some n) = nat_lt nestings n

abbrev pub too_wide : Lexeme → Bool
too_wide t = is_kind number t && not (nat_lt (value t.spelling) number_end)

-- no number is too wide
abbrev pub Narrow : List Lexeme → Type 0
Narrow [] = Unit {0}
Narrow (t ∷ ts) = (too_wide t ≡ false) × Narrow ts

abbrev pub ending : Bool → Fate
ending true = fine
ending false = fails syntax []

-- at a token: what is left of the part with it, whether it lies too deep, and whether it is too wide
abbrev pub going : Option Part → Bool → Bool → (Part → Fate) → List Lexeme → Fate
going None d w f ts = fails syntax ts
going (Some q) true w f ts = fails deep ts
going (Some q) false true f ts = fails wide ts
going (Some q) false false f ts = f q

abbrev pub judge : Part → List Lexeme → Fate
judge p [] = ending (empties 12 p)
judge p (t ∷ ts) = going (left_of t p) (too_deep (depth_of t p)) (too_wide t) (λ q. judge q ts) (t ∷ ts)
