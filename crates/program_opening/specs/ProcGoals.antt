-- The goals of a program, procedure by procedure.
use Rattle.std.specs.Prelude.{ℕ, List, length, map, refl}
use Rattle.std.specs.Coded.{Coded, code_by, coded×, coded_list, coded_ℕ}
use Rattle.bpl_model.specs.Module.{Name, Proc, Module}
use Rattle.vc_build.specs.contracts.goal.Goal as goal_row
use Rattle.vc_build.specs.declared.goal.Goal.{Goal}
use Rattle.vc_build.specs.Goals.{goals}
use Rattle.vc_build.specs.Rebuild.{with_body}

pub record ProcGoals : Type 0 where
  pub name : Name
  pub goals : List Goal

-- a procedure's name, and its goals after its gotos are removed
abbrev pub goals_of_proc : Module → Proc → ProcGoals
goals_of_proc m p = record { name = p.name; goals = goals m p }

-- of each procedure with a body, in order
abbrev pub goals_by_proc : Module → List ProcGoals
goals_by_proc m = map (goals_of_proc m) (with_body m)

-- how many goals each procedure has
abbrev pub goal_counts : Module → List ℕ
goal_counts m = map (λ p. length (goals m p)) m.procs

-- a code, by which proofs tell such values apart: that of its parts
abbrev pub coded_proc_goals : Coded ProcGoals
coded_proc_goals = code_by (List ℕ × List Goal) (coded× (coded_list coded_ℕ) (coded_list goal_row.the_row.coded)) (λ q. (q.name, q.goals)) (λ p. record { name = p.0; goals = p.1 }) (λ _. refl)
