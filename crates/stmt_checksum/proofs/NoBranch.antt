-- An `if` without branches has no parts.
use Rattle.std.specs.Prelude.{◌≡◌, refl, Vec, List, [], Option, Some, None}
use Rattle.std.specs.declared.alloc.Global.{Global}
use Rattle.bpl_ast.specs.Statement.{Stmt}
use Rattle.bpl_ast.specs.StmtView.{last_of}
use Rattle.bpl_scopes.specs.Scopes.{Text}
use Rattle.stmt_checksum.specs.Parts.{chain_parts}

pub no_chain_parts : (h : List Text) (last : Option (Vec Stmt Global)) → chain_parts h (last_of last) ≡ []
no_chain_parts h None = refl
no_chain_parts h (Some ss) = refl
