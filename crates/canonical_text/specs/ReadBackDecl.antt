-- The canonical text of a declaration, read as one, gives the declaration again but for places.
use Rattle.std.specs.Prelude.{◌≡◌, ◌≤◌, ◌||◌, false, List, Ok}
use Rattle.bpl_ast.specs.Statement.{DeclBody}
use Rattle.bpl_grammar.specs.Lexeme.{Lexeme}
use Rattle.bpl_grammar.specs.ReadDeclarations.{read_decl}
use Rattle.canonical_text.specs.SameStatement.{SameDeclBody}
use Rattle.canonical_text.specs.WrittenStatement.{IsWrittenDecl}
use Rattle.canonical_text.specs.StatementNestings.{decl_depth}
use Rattle.canonical_text.specs.Tokens.{decl_tokens}
use Rattle.canonical_text.specs.Spelled.{Spelled}
use Rattle.canonical_text.specs.Ahead.{sees_text}
use Rattle.bpl_grammar.specs.Limits.{nestings}

-- where none of its tokens lies too deep, and no specification is behind it, which a procedure without a body would take in
abbrev pub DeclarationsAreReadBack : Type 0
DeclarationsAreReadBack = (d : DeclBody) → IsWrittenDecl d → decl_depth d ≤ nestings → (ls us : List Lexeme)
    → (sees_text "free" us || (sees_text "requires" us || (sees_text "ensures" us || sees_text "modifies" us))) ≡ false → Spelled (decl_tokens d) ls us
    → (e : DeclBody) × (read_decl ls ≡ Ok (e, us)) × SameDeclBody e d
