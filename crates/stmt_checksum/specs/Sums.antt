-- The checksums of a procedure's goals.
use Rattle.std.specs.Prelude.{ℕ, List, [], map, slice_get, Option, Some, None}
use Rattle.bpl_ast.specs.Statement.{Decl}
use Rattle.bpl_model.specs.Module.{Proc, Module}
use Rattle.vc_build.specs.Goals.{goals_by_passes}
use Rattle.stmt_checksum.specs.Chain.{sum_of}

abbrev pub sums_of_found : Module → List Decl → Option Proc → List (List ℕ)
sums_of_found m ds None = []
sums_of_found m ds (Some p) = map (λ g. sum_of m ds p.name g.mark) (goals_by_passes m p)

-- of the procedure of this number, if there is one: one for each goal, in order
abbrev pub sums : Module → List Decl → ℕ → List (List ℕ)
sums m ds n = sums_of_found m ds (slice_get m.procs n)
