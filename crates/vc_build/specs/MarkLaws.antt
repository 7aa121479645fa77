-- What is promised of marks.
use Rattle.std.specs.Prelude.{◌≡◌, map}
use Rattle.bpl_model.specs.Module.{Proc, Module}
use Rattle.vc_build.specs.declared.goal.Goal.{Goal}
use Rattle.vc_build.specs.Goals.{goals_by_passes}
use Rattle.vc_build.specs.Marks.{proc_marks}

-- the goals of a procedure have the marks of its text, one by one
abbrev pub GoalsHaveTheirMarks : Type 0
GoalsHaveTheirMarks = (m : Module) (p : Proc) → map (λ (g : Goal). g.mark) (goals_by_passes m p) ≡ proc_marks m p
