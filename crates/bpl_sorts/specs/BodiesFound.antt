-- The bodies of implementations, as the code finds them.
use Rattle.std.specs.Prelude.{List, map, Option}
use Rattle.std.specs.Borrow.{Bor}
use Rattle.bpl_ast.specs.Statement.{Signature, Body}
use Rattle.bpl_scopes.specs.Scopes.{Text}
use Rattle.bpl_resolve.specs.Elaborate.{Implemented}
use Rattle.bpl_resolve.specs.Implemented.{body_for}
use Rattle.bpl_sorts.specs.declared.procedure_types.Implementations.{Implementations}

abbrev pub implemented_seen : Bor Signature × Bor Body → Implemented
implemented_seen i = (i.0.now, i.1.now)

abbrev pub bodies_seen : List (Bor Signature × Bor Body) → List Implemented
bodies_seen is = map implemented_seen is

-- the body that is found under the name of a procedure
abbrev pub found_under : Implementations → Text → Option Implemented
found_under r n = body_for r.names (bodies_seen r.bodies.items) n
