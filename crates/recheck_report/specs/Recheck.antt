-- The answer of `recheck` to goals and lines: of the first goal without an accepted proof what is said of its line, or that there is none.
use Rattle.std.specs.Prelude.{◌≡◌, ℕ, Bool, true, false, List, [], ◌∷◌, map, flat_map, Some}
use Rattle.logic_core.specs.Def.{Obligation}
use Rattle.vc_build.specs.declared.goal.Goal.{Goal}
use Rattle.report_text.specs.Report.{head as head_text}
use Rattle.recheck_report.specs.Lines.{first_line, later_lines}
use Rattle.program_opening.specs.ProcGoals.{ProcGoals}
use Rattle.recheck_report.specs.Judged.{Judgement, accepted, IsJudged, complaint}
use Rattle.recheck_report.specs.Accepted.{accepted_line}

pub record Head : Type 0 where
  pub head : List ℕ
  pub obligation : Obligation

-- a goal of the procedure with this name
abbrev pub head_of : List ℕ → Goal → Head
head_of name g = record { head = head_text name g.mark; obligation = g.obligation }

-- the goals of the procedures, in order, with their heads
abbrev pub heads_in : ProcGoals → List Head
heads_in p = map (head_of p.name) p.goals

abbrev pub heads : List ProcGoals → List Head
heads ps = flat_map heads_in ps

-- One line for each goal; lines beyond them are passed over. The last says whether every goal has an accepted proof.
pub data Rechecks : List Head → List (List ℕ) → List ℕ → Bool → Type 0 where
  all_accepted : {ls : List (List ℕ)} → Rechecks [] ls accepted_line true
  has_proof : {g : Head} {gs : List Head} {ls : List (List ℕ)} {answer : List ℕ} {all : Bool} → IsJudged g.obligation (first_line ls) accepted
      → Rechecks gs (later_lines ls) answer all → Rechecks (g ∷ gs) ls answer all
  lacks_one : {g : Head} {gs : List Head} {ls : List (List ℕ)} {answer : List ℕ} (j : Judgement) → IsJudged g.obligation (first_line ls) j
      → complaint g.head j ≡ Some answer → Rechecks (g ∷ gs) ls answer false
