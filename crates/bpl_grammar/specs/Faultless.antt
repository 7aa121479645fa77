-- Which tokens spell a part of the grammar without fault.
use Rattle.std.specs.Prelude.{◌≡◌, ℕ, suc, ◌<◌, List, take, length, slice_get, Some}
use Rattle.bpl_grammar.specs.Lexeme.{Lexeme}
use Rattle.bpl_grammar.specs.Part.{Part}
use Rattle.bpl_grammar.specs.Spelling.{Spells, Begins}
use Rattle.bpl_grammar.specs.Nesting.{IsDeep, IsWide}

-- the tokens up to and with the k-th, counted from 0
abbrev pub up_to : ℕ → List Lexeme → List Lexeme
up_to k ls = take (suc k) ls

-- the k-th token, which is t, has no fault
pub record IsClean (p : Part) (ls : List Lexeme) (k : ℕ) (t : Lexeme) : Type 0 where
  pub begins : Begins p (up_to k ls)
  pub shallow : IsDeep p (up_to k ls) → ⊥
  pub narrow : IsWide t → ⊥

abbrev pub AreClean : Part → List Lexeme → ℕ → Type 0
AreClean p ls n = (k : ℕ) (t : Lexeme) → k < n → slice_get ls k ≡ Some t → IsClean p ls k t

-- the tokens, all of them, spell the part, and none has a fault
pub record AreFaultless (p : Part) (ls : List Lexeme) : Type 0 where
  pub spells : Spells p ls
  pub clean : AreClean p ls (length ls)
