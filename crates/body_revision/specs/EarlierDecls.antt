-- What the declarations before one declare, and the procedures that they give a body.
use Rattle.std.specs.Prelude.{List, reverse, flat_map}
use Rattle.bpl_ast.specs.Statement.{Decl}
use Rattle.bpl_scopes.specs.Scopes.{Text, texts_of, declared_names}
use Rattle.bpl_declaration_faults.specs.DeclFaults.{Before, body_names}

-- in the order of the text
abbrev pub names_of_decls : List Decl → List Text
names_of_decls ds = flat_map (λ (d : Decl). texts_of (declared_names d.body)) ds

abbrev pub bodies_of_decls : List Decl → List Text
bodies_of_decls ds = flat_map (λ (d : Decl). body_names d.body) ds

-- the last of the names first
abbrev pub turned : List Text → List Text → Before
turned names bodies = record { names = reverse names; bodies = reverse bodies }

abbrev pub earlier_decls : List Decl → Before
earlier_decls ds = turned (names_of_decls ds) (bodies_of_decls ds)
