-- What it is worth that each goal of a program is proved: no execution of any of its procedures from an entry state fails.
use Rattle.std.specs.Prelude.{◌≡◌, ℕ, true, List, Contains}
use Rattle.std.specs.List.{list_all}
use Rattle.bpl_model.specs.Module.{Proc, Module}
use Rattle.bpl_model.specs.Safe.{Safe}
use Rattle.tableau.specs.Search.{is_proved}
use Rattle.program_opening.specs.ProcGoals.{goals_by_proc}
use Rattle.program_opening.specs.Opening.{program, Opens}
use Rattle.report_laws.specs.Summary.{verdicts_on}

abbrev pub ProvedAreSafe : Type 0
ProvedAreSafe = (turns : ℕ) (text : List ℕ) (m : Module) → Opens text (program m) → list_all is_proved (verdicts_on turns (goals_by_proc m)) ≡ true → (p : Proc) → Contains m.procs p → Safe m p
