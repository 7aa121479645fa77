-- What the laws of programs say.
use Rattle.std.specs.Prelude.{◌≡◌, ℕ, List, Ok, Err}
use Rattle.bpl_ast.specs.Statement.{Decl}
use Rattle.bpl_grammar.specs.Part.{rule, program}
use Rattle.bpl_grammar.specs.Fault.{Fault, HasFault}
use Rattle.bpl_grammar.specs.Programs.{SpellsProgram}
use Rattle.bpl_grammar.specs.ReadPrograms.{read_text}

-- A text that is read spells the program that reading gives, and a text that isn't has the fault that it gives.
pub record IsReadExactly (bytes : List ℕ) : Type 0 where
  pub reads : (ds : List Decl) → read_text bytes ≡ Ok ds → SpellsProgram bytes ds
  pub refuses : (f : Fault) → read_text bytes ≡ Err f → HasFault (rule program) bytes f

abbrev pub ProgramsAreExact : Type 0
ProgramsAreExact = (bytes : List ℕ) → IsReadExactly bytes

-- A text spells no other program than the one that is read.
abbrev pub ProgramsAreUnique : Type 0
ProgramsAreUnique = (bytes : List ℕ) (ds : List Decl) → SpellsProgram bytes ds → read_text bytes ≡ Ok ds

-- The fault that a text has is the one that reading gives.
abbrev pub FaultsAreFound : Type 0
FaultsAreFound = (bytes : List ℕ) (f : Fault) → HasFault (rule program) bytes f → read_text bytes ≡ Err f

-- A text spells one program at most.
abbrev pub OneProgram : Type 0
OneProgram = (bytes : List ℕ) (ds es : List Decl) → SpellsProgram bytes ds → SpellsProgram bytes es → ds ≡ es
