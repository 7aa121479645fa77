-- Procedures in which points are put, behind those of their module.
use Rattle.std.specs.Prelude.{ℕ, ◌<◌, List, [], ◌++◌, map, length, slice_index_or, None}
use Rattle.std.specs.List.{AllByRecursion}
use Rattle.bpl_model.specs.Module.{Proc, Module}
use Rattle.bpl_goto.specs.Removed.{removed}
use Rattle.smoke_report.specs.Put.{proc_with_point}
use Rattle.smoke_report.specs.declared.program_point.ProgramPoint.{ProgramPoint}

-- they are points of these procedures
abbrev pub AreOf : List Proc → List ProgramPoint → Type 0
AreOf ps xs = AllByRecursion (λ x. x.proc < length ps) xs

abbrev pub proc_at : List Proc → ℕ → Proc
proc_at ps i = slice_index_or ps i (record { name = []; ins = []; outs = []; locals = []; specs = []; body = None })

-- the point's procedure with the point put in, and without gotos
abbrev pub pointed : List Proc → ProgramPoint → Proc
pointed ps x = removed (proc_with_point (proc_at ps x.proc) x.number)

-- the module, and behind its procedures one for each of the points
abbrev pub with_points : Module → List ProgramPoint → Module
with_points m xs = record m { procs = m.procs ++ map (pointed m.procs) xs }
