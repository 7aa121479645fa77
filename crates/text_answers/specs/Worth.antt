-- What an answer is worth, said by executions alone: procedures that it calls correct, or all of them where it says `accepted`, have no execution from an entry state that fails, and none comes to a point that it calls unreachable.
use Rattle.std.specs.Prelude.{◌≡◌, ◌≢◌, ℕ, List, Contains, codes}
use Rattle.bpl_ast.specs.Statement.{Decl}
use Rattle.bpl_grammar.specs.Programs.{SpellsProgram}
use Rattle.bpl_model.specs.Module.{Proc, Module}
use Rattle.bpl_model.specs.Safe.{Safe}
use Rattle.command_words.specs.declared.command.Mode.{Mode}
use Rattle.command_words.specs.declared.command.Mode.TheVariants.{Check, Serve, Recheck, Gen, Smoke}
use Rattle.bv_base.specs.Text.{ended}
use Rattle.report_laws.specs.Called.{IsProgramOf, CallsCorrectTheSafe}
use Rattle.recheck_report.specs.Program.{program_in}
use Rattle.smoke_report.specs.Unreached.{NamesUnreached}
use Rattle.text_answers.specs.declared.status.Status.{Status}
use Rattle.text_answers.specs.declared.status.Status.TheVariants.{Refused}

-- the text spells a program, and this is its module
pub record IsProgram (text : List ℕ) (m : Module) : Type 0 where
  pub decls : List Decl
  pub spelled : SpellsProgram text decls
  pub is_program : IsProgramOf decls m

abbrev pub AllAreSafe : Module → Type 0
AllAreSafe m = (p : Proc) → Contains m.procs p → Safe m p

-- where the text isn't refused, it is a program, and for each line `P correct` of what is written the procedure P is safe
abbrev pub IsCorrectSafe : List ℕ → List ℕ → Status → Type 0
IsCorrectSafe text written status = status ≢ Refused → (m : Module) × IsProgram text m × CallsCorrectTheSafe m written

-- where `accepted` is written, the text before the proofs is a program, and each of its procedures is safe
abbrev pub IsAcceptedSafe : List ℕ → List ℕ → Type 0
IsAcceptedSafe text written = written ≡ ended (codes "accepted") → (m : Module) × IsProgram (program_in text) m × AllAreSafe m

-- where the text isn't refused, it is a program, and what is written names points that no execution from an entry state reaches
abbrev pub IsNamedUnreached : List ℕ → List ℕ → Status → Type 0
IsNamedUnreached text written status = status ≢ Refused → (m : Module) × IsProgram text m × NamesUnreached m written

abbrev pub IsWorth : Mode → List ℕ → List ℕ → Status → Type 0
IsWorth Check text written status = IsCorrectSafe text written status
IsWorth Recheck text written status = IsAcceptedSafe text written
IsWorth Serve text written status = ⊥
IsWorth Gen text written status = ⊥
IsWorth Smoke text written status = IsNamedUnreached text written status
