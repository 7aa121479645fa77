-- What the lines on points are worth: a procedure doesn't reach a point that a line names.
use Rattle.std.specs.Prelude.{◌≡◌, ℕ, slice_get, Some}
use Rattle.std.specs.List.{AllByRecursion}
use Rattle.logic_core.specs.Valid.{Valid}
use Rattle.bpl_model.specs.Module.{Proc, Module}
use Rattle.bpl_model.specs.Typed.{IsTypedModule}
use Rattle.bpl_goto.specs.Forward.{AllGoForward}
use Rattle.smoke_report.specs.declared.point.Point.{Point}
use Rattle.smoke_report.specs.Points.{point_at}
use Rattle.smoke_report.specs.Put.{proc_with_point, with_point}
use Rattle.smoke_report.specs.Reach.{Reaches}
use Rattle.vc_build.specs.Goals.{goals}
use Rattle.bv_base.specs.Text.{text_of}
use Rattle.smoke_report.specs.Smoke.{smoke_lines}
use Rattle.smoke_report.specs.Unreached.{NamesUnreached}

-- where all goals with the point's mark are valid, the procedure reaches the point from none of its entry states
abbrev pub ValidPointsAreUnreached : Type 0
ValidPointsAreUnreached = (m : Module) (i n : ℕ) (p : Proc) (x : Point) → IsTypedModule m → AllGoForward m → slice_get m.procs i ≡ Some p → point_at p n ≡ Some x
    → AllByRecursion (λ g. g.mark ≡ x.mark → Valid g.obligation) (goals (with_point m i n) (proc_with_point p n)) → ¬ Reaches m i n

-- what is written of a module does so, whatever its turns
abbrev pub UnreachableIsUnreached : Type 0
UnreachableIsUnreached = (turns : ℕ) (m : Module) → IsTypedModule m → AllGoForward m → NamesUnreached m (text_of (smoke_lines turns m))
