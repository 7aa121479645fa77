-- What a report is worth: it calls correct only procedures that are safe.
use Rattle.std.specs.Prelude.{◌≡◌, ℕ, List}
use Rattle.bpl_ast.specs.Statement.{Decl}
use Rattle.bpl_model.specs.Module.{Module}
use Rattle.bv_base.specs.Text.{text_of}
use Rattle.program_opening.specs.Opening.{program, opening, Opens}
use Rattle.program_opening.specs.Spelled.{AreSpelled}
use Rattle.report_laws.specs.Scratch.{scratch}
use Rattle.report_laws.specs.Called.{CallsCorrectTheSafe}

-- the report on declarations of texts does so, whatever its turns
abbrev pub DeclaredCorrectIsSafe : Type 0
DeclaredCorrectIsSafe = (turns : ℕ) (ds : List Decl) (m : Module) → AreSpelled ds → opening ds ≡ program m → CallsCorrectTheSafe m (text_of (scratch turns m))

-- and that on the program that a text is
abbrev pub CorrectIsSafe : Type 0
CorrectIsSafe = (turns : ℕ) (text : List ℕ) (m : Module) → Opens text (program m) → CallsCorrectTheSafe m (text_of (scratch turns m))
