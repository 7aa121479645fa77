-- In the module of a program without faults each procedure is one that the module's type keeps.
use Rattle.std.proofs.Common.{◌≡◌, List, [], ◌∷◌, None}
use Rattle.std.specs.List.{AllByRecursion}
use Rattle.bpl_ast.specs.Statement.{Decl}
use Rattle.bpl_model.specs.Module.{Proc}
use Rattle.bpl_model.specs.Typed.{IsTypedProc}
use Rattle.bpl_declaration_faults.specs.DeclFaults.{fault_of}
use Rattle.bpl_resolve.specs.Elaborate.{module_of}
use Rattle.bpl_resolve.proofs.ProcBodies.{ProcOk, bodies_typed}
use Rattle.bpl_resolve.proofs.ContractTyped.{ContractOk, contracts_typed}

module _ (ds : List Decl) (none : fault_of ds ≡ None) where
  together : (ps : List Proc) → AllByRecursion (ProcOk ds none) ps → AllByRecursion (ContractOk ds none) ps → AllByRecursion (IsTypedProc (module_of ds)) ps
  together [] h g = tt
  together (p ∷ ps) h g = (record { specs = g.0.1; in_clauses = g.0.0.0; out_clauses = g.0.0.1; local_clauses = h.0.0.1; body = h.0.0.0; none_own = h.0.1 }, together ps h.1 g.1)

  pub procs_typed : AllByRecursion (IsTypedProc (module_of ds)) (module_of ds).procs
  procs_typed = together (module_of ds).procs (bodies_typed ds none) (contracts_typed ds none)
