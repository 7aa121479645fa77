-- What the reports of a session are worth.
use Rattle.std.specs.Prelude.{◌≡◌, ℕ, List, [], map}
use Rattle.std.specs.List.{AllByRecursion}
use Rattle.bpl_ast.specs.Statement.{Decl}
use Rattle.bpl_model.specs.Module.{Module}
use Rattle.program_opening.specs.Opening as opening
use Rattle.request_text.specs.Request.{reported}
use Rattle.report_laws.specs.Scratch.{scratch}
use Rattle.edit_session.specs.Program.{IsModuleOf}
use Rattle.edit_session.specs.Session.{Exchange, WholeSession}
pub use Rattle.edit_session.specs.SessionWorth.{NamesTheSafe}
use Rattle.edit_session.specs.SessionWorth.{AreWorth}
use Rattle.request_text.specs.Reading.{request_of}
use Rattle.request_text.specs.Replies.{reply_text}

-- of the program that is open then it is the report from scratch, and what it calls correct is safe; the module is that of the declarations by names and types
pub record IsTrueReport (turns : ℕ) (ds : List Decl) (lines : List (List ℕ)) : Type 0 where
  pub typed : Module
  pub is_module : IsModuleOf ds typed
  pub is_typed : opening.typing ds ≡ opening.typed typed
  pub from_scratch : lines ≡ scratch turns typed
  pub correct_is_safe : NamesTheSafe typed lines

abbrev pub ReportIsTrue : ℕ → Exchange → Type 0
ReportIsTrue turns x = (lines : List (List ℕ)) (version : ℕ) → x.reply ≡ reported lines version → IsTrueReport turns (x.after).decls lines

-- each report of each session is true, whatever was opened, edited, kept and claimed before, by any number of workers
abbrev pub ReportsAreTrue : Type 0
ReportsAreTrue = (turns workers : ℕ) (xs : List Exchange) → WholeSession turns workers xs → AllByRecursion (ReportIsTrue turns) xs

-- the lines of each session with the texts of their replies are worth what is said by executions alone, by any number of workers
abbrev pub SessionsAreWorth : Type 0
SessionsAreWorth = (turns workers : ℕ) (xs : List Exchange) (lines : List (List ℕ)) → WholeSession turns workers xs → map (λ x. x.asked) xs ≡ map request_of lines → AreWorth [] lines (map (λ x. reply_text x.reply) xs)
