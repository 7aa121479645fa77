-- The lines of checksums: of each goal its head, and its checksum in hexadecimal digits.
use Rattle.std.specs.Prelude.{ℕ, List, [], ◌∷◌, ◌++◌, map, codes}
use Rattle.hex.specs.Hex.{encode_lower}
use Rattle.flow_core.specs.declared.mark.Mark.{Mark}
use Rattle.bpl_ast.specs.Statement.{Decl}
use Rattle.canonical_text.specs.Lines.{Lines}
use Rattle.bpl_model.specs.Module.{Module}
use Rattle.bpl_scopes.specs.Scopes.{Text}
use Rattle.report_text.specs.Report.{head}
use Rattle.stmt_checksum.specs.Chain.{sum_of}

abbrev pub sum_line : Module → List Decl → Text → Mark → List ℕ
sum_line m ds n g = head n g ++ codes " " ++ encode_lower (sum_of m ds n g)

abbrev pub sum_lines_of : Module → List Decl → Text → List Mark → Lines
sum_lines_of m ds n gs = map (sum_line m ds n) gs

-- of procedures by their names, with the marks of their goals
abbrev pub sum_lines : Module → List Decl → List Text → List (List Mark) → Lines
sum_lines m ds [] gss = []
sum_lines m ds (n ∷ ns) [] = []
sum_lines m ds (n ∷ ns) (gs ∷ gss) = sum_lines_of m ds n gs ++ sum_lines m ds ns gss
