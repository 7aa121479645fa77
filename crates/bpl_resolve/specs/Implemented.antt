-- The bodies of implementations, under the names of their procedures.
use Rattle.std.specs.Prelude.{ℕ, List, [], ◌∷◌, map, flat_map, Option, Some, None, slice_get}
use Rattle.bpl_ast.specs.Statement.{DeclBody, implementation, procedure, Decl}
use Rattle.bpl_model.specs.Module.{Proc}
use Rattle.bpl_scopes.specs.Positions.{first_at}
use Rattle.bpl_scopes.specs.Scopes.{Text, Table, Counts}
use Rattle.bpl_resolve.specs.Elaborate.{Implemented as implemented, or_else, own_body, proc_of}
use Rattle.bpl_resolve.specs.declared.implementations.Implemented.{Implemented}

abbrev pub implemented_seen : Implemented → implemented
implemented_seen i = (i.signature.now, i.body.now)

abbrev pub bodies_seen : List Implemented → List implemented
bodies_seen is = map implemented_seen is

-- the name and the body of a declaration that is an implementation
abbrev pub name_of_body : DeclBody → List Text
name_of_body (implementation n ps g b) = n.text ∷ []
name_of_body d = []

abbrev pub body_given : DeclBody → List implemented
body_given (implementation n ps g b) = (g, b) ∷ []
body_given d = []

abbrev pub names_of_bodies : List Decl → List Text
names_of_bodies ds = flat_map (λ (d : Decl). name_of_body d.body) ds

abbrev pub bodies_given : List Decl → List implemented
bodies_given ds = flat_map (λ (d : Decl). body_given d.body) ds

-- the body beside the first of these names
abbrev pub body_at : List implemented → Option ℕ → Option implemented
body_at bs None = None
body_at bs (Some i) = slice_get bs i

abbrev pub body_for : List Text → List implemented → Text → Option implemented
body_for ns bs n = body_at bs (first_at n ns)

-- the procedure that a declaration declares, where these are the bodies of implementations
abbrev pub procs_with : List Text → List implemented → Table → Counts → DeclBody → List Proc
procs_with ns bs t c (procedure n ps g ss b) = proc_of t c n.text g ss (or_else (own_body g b) (body_for ns bs n.text)) ∷ []
procs_with ns bs t c d = []
