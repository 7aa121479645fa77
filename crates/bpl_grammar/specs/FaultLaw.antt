-- What the laws of faults say.
use Rattle.std.specs.Prelude.{◌≡◌, ◌⊎◌, ◌↔◌, ℕ, List, drop}
use Rattle.bpl_grammar.specs.Lexeme.{Lexeme}
use Rattle.bpl_grammar.specs.Part.{Part}
use Rattle.bpl_grammar.specs.Judge.{Mark, fine, fails, judge}
use Rattle.bpl_grammar.specs.Fault.{AreFaultless, IsStop, Fault, IsFaultless, HasFault}

-- All is well exactly where the tokens spell the part and none has a fault.
abbrev pub FineIsFaultless : Type 0
FineIsFaultless = (p : Part) (ls : List Lexeme) → (judge p ls ≡ fine) ↔ AreFaultless p ls

-- Reading fails exactly where the first fault stands, and with its mark.
abbrev pub FailsAtTheFault : Type 0
FailsAtTheFault = (p : Part) (ls : List Lexeme) (m : Mark) (us : List Lexeme) → (judge p ls ≡ fails m us) ↔ ((k : ℕ) × IsStop p ls k m × (us ≡ drop k ls))

-- Every text spells the part without a fault, or has a fault.
abbrev pub FaultlessOrFault : Type 0
FaultlessOrFault = (p : Part) (bytes : List ℕ) → IsFaultless p bytes ⊎ ((f : Fault) × HasFault p bytes f)

-- No text does both.
abbrev pub NeverBoth : Type 0
NeverBoth = (p : Part) (bytes : List ℕ) (f : Fault) → IsFaultless p bytes → HasFault p bytes f → ⊥

-- A text has one fault at most.
abbrev pub OneFault : Type 0
OneFault = (p : Part) (bytes : List ℕ) (f g : Fault) → HasFault p bytes f → HasFault p bytes g → f ≡ g
