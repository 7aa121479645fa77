-- The points of a program, procedure by procedure.
use Rattle.std.specs.Prelude.{ℕ, ◌+◌, List, [], ◌∷◌, ◌++◌}
use Rattle.bpl_model.specs.Module.{Name, Proc, Module}
use Rattle.smoke_report.specs.declared.point.Point.{Point}
use Rattle.smoke_report.specs.Points.{points}
use Rattle.smoke_report.specs.declared.program_point.ProgramPoint.{ProgramPoint}

-- points of the procedure of this number and name, numbered from n on
abbrev pub points_on : ℕ → Name → ℕ → List Point → List ProgramPoint
points_on i name n [] = []
points_on i name n (x ∷ xs) = record { proc = i; name = name; number = n; point = x } ∷ points_on i name (n + 1) xs

-- of these procedures, numbered from i on
abbrev pub points_from : ℕ → List Proc → List ProgramPoint
points_from i [] = []
points_from i (p ∷ ps) = points_on i p.name 1 (points p) ++ points_from (i + 1) ps

abbrev pub program_points : Module → List ProgramPoint
program_points m = points_from 0 m.procs
