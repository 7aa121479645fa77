-- Each canonical line of a declaration has its part.
use Rattle.std.specs.Prelude.{◌≡◌, length}
use Rattle.bpl_ast.specs.Statement.{DeclBody}
use Rattle.canonical_text.specs.Lines.{lines}
use Rattle.stmt_checksum.specs.Parts.{parts}

abbrev pub LinesHaveParts : Type 0
LinesHaveParts = (d : DeclBody) → length (parts d) ≡ length (lines d)
