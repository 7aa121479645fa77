-- What was built of a program, as replies are made of it.
use Rattle.std.specs.Prelude.{ℕ, List, [], ◌∷◌, map, length, take, drop, flat_map}
use Rattle.program_opening.specs.ProcGoals.{ProcGoals}
use Rattle.vc_build.specs.Rebuild.{BuiltProc}
use Rattle.vc_build.specs.declared.goal.Goal.{Goal}
use Rattle.tableau.specs.Search.{Verdict}
use Rattle.report_text.specs.Report.{report}
use Rattle.obligation_text.specs.Asked.{Asked}
use Rattle.edit_session.specs.Program.{question}

abbrev pub proc_goals : BuiltProc → ProcGoals
proc_goals b = record { name = b.name; goals = b.goals }

abbrev pub goal_counts : List BuiltProc → List ℕ
goal_counts bs = map (λ (b : BuiltProc). length b.goals) bs

-- the questions of goals, procedure by procedure
abbrev pub questions_of : ℕ → List BuiltProc → List Asked
questions_of turns bs = flat_map (λ (b : BuiltProc). map (question turns) b.goals) bs

-- a list in parts of these lengths
abbrev pub in_parts : {A : Type 0} → List ℕ → List A → List (List A)
in_parts [] xs = []
in_parts (n ∷ ns) xs = take n xs ∷ in_parts ns (drop n xs)

-- the report's lines, by the verdicts of all goals, in order
abbrev pub told_lines : List BuiltProc → List Verdict → List (List ℕ)
told_lines bs vs = report (map (λ (b : BuiltProc). b.name) bs) (map (λ (b : BuiltProc). map (λ (g : Goal). g.mark) b.goals) bs) (in_parts (goal_counts bs) vs)
