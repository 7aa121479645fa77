-- What a list of references to declarations shows.
use Rattle.std.specs.Prelude.{List, map}
use Rattle.std.specs.Borrow.{Bor}
use Rattle.bpl_ast.specs.Statement.{Decl}

abbrev pub decls_seen : List (Bor Decl) → List Decl
decls_seen ds = map (λ d. d.now) ds
