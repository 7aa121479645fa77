-- Points that a procedure reaches.
use Rattle.std.specs.Prelude.{◌≡◌, ℕ, slice_get, Some}
use Rattle.flow_core.specs.State.{State}
use Rattle.bpl_model.specs.Module.{Proc, Module}
use Rattle.bpl_model.specs.World.{IsEntry}
use Rattle.bpl_model.specs.Execution.{ExecBody, failed}
use Rattle.smoke_report.specs.declared.point.Point.{Point}
use Rattle.smoke_report.specs.Points.{point_at}
use Rattle.smoke_report.specs.Put.{proc_with_point, with_point}

-- from this state the procedure with the point put in has an execution that fails with the point's mark
abbrev pub ReachesFrom : Module → ℕ → Proc → ℕ → Point → State → Type 0
ReachesFrom m i p n point σ = ExecBody (with_point m i n) (proc_with_point p n) σ (failed point.mark)

-- the procedure of the first number reaches its point of the second from some entry state
pub record Reaches (m : Module) (i n : ℕ) : Type 0 where
  pub proc : Proc
  pub point : Point
  pub named : slice_get m.procs i ≡ Some proc
  pub numbered : point_at proc n ≡ Some point
  pub from : State
  pub entry : IsEntry m proc from
  pub reached : ReachesFrom m i proc n point from
