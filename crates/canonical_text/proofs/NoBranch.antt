-- An `if` without branches has no lines.
use Rattle.std.specs.Prelude.{◌≡◌, refl, ℕ, Vec, List, [], Option, Some, None}
use Rattle.std.specs.declared.alloc.Global.{Global}
use Rattle.bpl_ast.specs.Statement.{Stmt}
use Rattle.canonical_text.specs.Glyph.{Glyph}
use Rattle.bpl_ast.specs.StmtView.{last_of}
use Rattle.canonical_text.specs.Lines.{chain}

pub no_chain : (n : ℕ) (ls : List Glyph) (last : Option (Vec Stmt Global)) → chain n ls (last_of last) ≡ []
no_chain n ls None = refl
no_chain n ls (Some ss) = refl
