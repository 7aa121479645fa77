-- What the law of edits says.
use Rattle.std.specs.Prelude.{◌≡◌, List}
use Rattle.bpl_ast.specs.Statement.{Decl}
use Rattle.request_text.specs.Request.{Request}
use Rattle.program_edits.specs.Edited.{Edited, edited, IsEdited}
use Rattle.program_edits.specs.Leaves.{Leaves}

-- A request makes one thing of declarations.
abbrev pub OneEdit : Type 0
OneEdit = (old : List Decl) (r : Request) (e f : Edited) → IsEdited old r e → IsEdited old r f → e ≡ f

-- What is taken is what the request leaves.
abbrev pub TakenIsLeft : Type 0
TakenIsLeft = (old : List Decl) (r : Request) (new : List Decl) → IsEdited old r (edited new) → Leaves old r new
