-- The module of a program without faults.
use Rattle.std.specs.Prelude.{◌≡◌, List, None}
use Rattle.bpl_ast.specs.Statement.{Decl}
use Rattle.bpl_model.specs.Typed.{IsTypedModule}
use Rattle.bpl_goto.specs.Forward.{AllGoForward}
use Rattle.bpl_declaration_faults.specs.DeclFaults.{fault_of}
use Rattle.bpl_resolve.specs.Elaborate.{module_of}

-- it is typed
abbrev pub FaultlessIsTyped : Type 0
FaultlessIsTyped = (ds : List Decl) → fault_of ds ≡ None → IsTypedModule (module_of ds)

-- its gotos go forward
abbrev pub FaultlessGoesForward : Type 0
FaultlessGoesForward = (ds : List Decl) → fault_of ds ≡ None → AllGoForward (module_of ds)
