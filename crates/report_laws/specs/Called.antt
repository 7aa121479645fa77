-- When declarations are a program, and what bytes say of it: a procedure that they call correct is safe.
use Rattle.std.specs.Prelude.{◌≡◌, ℕ, List, None, Contains}
use Rattle.bpl_ast.specs.Statement.{Decl}
use Rattle.bpl_declaration_faults.specs.DeclFaults.{fault_of}
use Rattle.user_types.specs.Erased.{erased, told_apart}
use Rattle.bpl_resolve.specs.Elaborated.{IsElaborated}
use Rattle.bpl_model.specs.Module.{Proc, Module}
use Rattle.bpl_model.specs.Safe.{Safe}
use Rattle.bv_base.specs.Text.{HasLine}
use Rattle.report_text.specs.Called.{correct_line, IsName}

-- they have no fault by names and types, their user types read as integers and each told apart from every other type, and this is the module of those read as integers
pub record IsProgramOf (ds : List Decl) (m : Module) : Type 0 where
  pub faultless : fault_of (erased ds) ≡ None
  pub told : fault_of (told_apart ds) ≡ None
  pub is : IsElaborated (erased ds) m

-- some procedure has this name, and no execution from an entry state of one that has it fails
pub record IsSafeIn (m : Module) (name : List ℕ) : Type 0 where
  pub proc : Proc
  pub there : Contains m.procs proc
  pub named : proc.name ≡ name
  pub safe : (p : Proc) → Contains m.procs p → p.name ≡ name → Safe m p

-- where the line stands in these bytes, whole, that the procedure of a name is correct, the procedure of that name is safe
abbrev pub CallsCorrectTheSafe : Module → List ℕ → Type 0
CallsCorrectTheSafe m written = (name : List ℕ) → IsName name → HasLine written (correct_line name) → IsSafeIn m name
