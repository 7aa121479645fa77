-- The lines of checksums: of each goal its head, and the checksum's digits.
use Rattle.std.specs.Prelude.{ℕ, List, map}
use Rattle.bpl_ast.specs.Statement.{Decl}
use Rattle.bpl_model.specs.Module.{Module}
use Rattle.user_types.specs.Erased.{erased}
use Rattle.program_opening.specs.ProcGoals.{ProcGoals, goals_by_proc}
use Rattle.stmt_checksum.specs.SumLines.{sum_lines}

abbrev pub sums_on : Module → List Decl → List ProcGoals → List (List ℕ)
sums_on m ds ps = sum_lines m ds (map (λ p. p.name) ps) (map (λ p. map (λ g. g.mark) p.goals) ps)

-- of declarations with their module, procedure by procedure: those of the declarations without user types
abbrev pub sums_of : Module → List Decl → List (List ℕ)
sums_of m ds = sums_on m (erased ds) (goals_by_proc m)
