-- The lines of replies, by the answers of the program's goals, in order.
use Rattle.std.specs.Prelude.{ℕ, List, map, length}
use Rattle.bpl_model.specs.Module.{Module}
use Rattle.tableau.specs.Settled.{Settled}
use Rattle.report_text.specs.Report.{report}
use Rattle.program_opening.specs.ProcGoals.{ProcGoals, goals_by_proc}
use Rattle.edit_session.specs.Program.{text_or_none}
use Rattle.edit_session.specs.Built.{in_parts}

-- the report's lines, of procedures with these goals: each has the verdicts of as many answers as it has goals
abbrev pub report_by : List ProcGoals → List Settled → List (List ℕ)
report_by ps answers = report (map (λ p. p.name) ps) (map (λ p. map (λ g. g.mark) p.goals) ps) (map (map (λ a. a.verdict)) (in_parts (map (λ p. length p.goals) ps) answers))

abbrev pub lines_by : Module → List Settled → List (List ℕ)
lines_by m answers = report_by (goals_by_proc m) answers

-- the proofs' texts
abbrev pub texts_by : List Settled → List (List ℕ)
texts_by answers = map (λ a. text_or_none a.found) answers
