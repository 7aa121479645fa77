-- The fault of a text that is to spell a part of the grammar.
use Rattle.std.specs.Prelude.{◌≡◌, ℕ, ◌≤◌, List, length, slice_get, Some, None, Result, Ok, Err}
use Rattle.bpl_lex.specs.Token.{Token}
use Rattle.bpl_lex.specs.Lexing.{tokens, end_of}
use Rattle.bpl_grammar.specs.Lexeme.{Lexeme, lexemes}
use Rattle.bpl_grammar.specs.Part.{Part}
use Rattle.bpl_grammar.specs.Spelling.{Spells, Begins}
use Rattle.bpl_grammar.specs.Nesting.{IsDeep, IsWide}
pub use Rattle.bpl_grammar.specs.Faultless.{up_to, IsClean, AreClean, AreFaultless}
use Rattle.bpl_grammar.specs.Judge.{Mark, syntax, deep, wide}

-- each by the byte at which it stands
pub data Fault : Type 0 where
  lexical : ℕ → Fault
  marked : Mark → ℕ → Fault

-- the last of these tokens, which is t, has this fault: at one token Syntax comes before Deep, and Deep before Wide
abbrev pub StopsAt : Part → List Lexeme → Lexeme → Mark → Type 0
StopsAt p us t syntax = Begins p us → ⊥
StopsAt p us t deep = Begins p us × IsDeep p us
StopsAt p us t wide = Begins p us × (IsDeep p us → ⊥) × IsWide t

-- The fault stands at the k-th token, the first that has one; or all tokens begin the part and spell none, and it stands
-- at the end of the text, which counts as a token.
pub record IsStop (p : Part) (ls : List Lexeme) (k : ℕ) (m : Mark) : Type 0 where
  pub clean : AreClean p ls k
  pub stops : (t : Lexeme) → slice_get ls k ≡ Some t → StopsAt p (up_to k ls) t m
  pub ends : length ls ≤ k → (m ≡ syntax) × (Spells p ls → ⊥)
  pub within : k ≤ length ls

-- the byte at which the k-th token begins, or just after the last token
abbrev pub byte_of : List Token → ℕ → ℕ
byte_of ts k = elim (slice_get ts k) [ Some t ↦ t.start | None ↦ end_of ts ]

abbrev pub FaultOf : Part → List ℕ → Result (List Token) ℕ → Fault → Type 0
FaultOf p bytes (Err at) f = f ≡ lexical at
FaultOf p bytes (Ok ts) f = (k : ℕ) × (m : Mark) × IsStop p (lexemes bytes 0 ts) k m × (f ≡ marked m (byte_of ts k))

abbrev pub FaultlessBy : Part → List ℕ → Result (List Token) ℕ → Type 0
FaultlessBy p bytes (Err at) = ⊥
FaultlessBy p bytes (Ok ts) = AreFaultless p (lexemes bytes 0 ts)

-- the text spells the part, and has no fault
abbrev pub IsFaultless : Part → List ℕ → Type 0
IsFaultless p bytes = FaultlessBy p bytes (tokens bytes)

-- the text has this fault
abbrev pub HasFault : Part → List ℕ → Fault → Type 0
HasFault p bytes f = FaultOf p bytes (tokens bytes) f
