-- What the answer of `recheck` is worth.
use Rattle.std.specs.Prelude.{◌≡◌, ◌↔◌, ℕ, Bool, true, List, [], slice_get, slice_index_or, Some, Contains}
use Rattle.std.specs.List.{AllByRecursion}
use Rattle.logic_core.specs.Valid.{Valid}
use Rattle.bpl_model.specs.Module.{Proc, Module}
use Rattle.bpl_model.specs.Safe.{Safe}
use Rattle.vc_build.specs.Goals.{goals}
use Rattle.program_opening.specs.ProcGoals.{goals_by_proc}
use Rattle.program_opening.specs.Opening.{program, Opens}
use Rattle.recheck_report.specs.Judged.{accepted, IsJudged}
use Rattle.recheck_report.specs.Accepted.{accepted_line}
use Rattle.recheck_report.specs.Recheck.{Head, heads, Rechecks}

-- goals and lines have one answer at most: a text is that of one proof, a bad text has one place, and no text is both
abbrev pub OneAnswer : Type 0
OneAnswer = (gs : List Head) (ls : List (List ℕ)) (a b : List ℕ) (x y : Bool) → Rechecks gs ls a x → Rechecks gs ls b y → (a ≡ b) × (x ≡ y)

-- the k-th line is the text of an accepted proof of the k-th goal, for each of the goals; an absent line is empty
abbrev pub AreAccepted : List Head → List (List ℕ) → Type 0
AreAccepted gs ls = (k : ℕ) (g : Head) → slice_get gs k ≡ Some g → IsJudged g.obligation (slice_index_or ls k []) accepted

-- both say exactly whether they are
pub record IsExact (gs : List Head) (ls : List (List ℕ)) (answer : List ℕ) (all : Bool) : Type 0 where
  pub by_line : (answer ≡ accepted_line) ↔ AreAccepted gs ls
  pub by_all : (all ≡ true) ↔ AreAccepted gs ls

abbrev pub AcceptedExactly : Type 0
AcceptedExactly = (gs : List Head) (ls : List (List ℕ)) (answer : List ℕ) (all : Bool) → Rechecks gs ls answer all → IsExact gs ls answer all

-- of a program: each goal is valid, and no procedure has an execution from an entry state that fails
pub record AllIsWell (m : Module) : Type 0 where
  pub valid : (p : Proc) → Contains m.procs p → AllByRecursion (λ g. Valid g.obligation) (goals m p)
  pub safe : (p : Proc) → Contains m.procs p → Safe m p

abbrev pub AcceptedIsSafe : Type 0
AcceptedIsSafe = (text : List ℕ) (m : Module) (ls : List (List ℕ)) (all : Bool) → Opens text (program m) → Rechecks (heads (goals_by_proc m)) ls accepted_line all → AllIsWell m
