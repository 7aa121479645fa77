-- The module of a program without faults is typed.
use Rattle.std.proofs.Common.{◌≡◌, None, List}
use Rattle.bpl_ast.specs.Statement.{Decl}
use Rattle.bpl_model.specs.Typed.{IsTypedModule}
use Rattle.bpl_declaration_faults.specs.DeclFaults.{fault_of}
use Rattle.bpl_resolve.specs.Elaborate.{module_of}
use Rattle.bpl_resolve.proofs.ModuleSorts.{axioms_typed}
use Rattle.bpl_resolve.proofs.GlobalClauses.{global_clauses_typed}
use Rattle.bpl_resolve.proofs.FunctionBodies.{functions_typed}
use Rattle.bpl_resolve.proofs.ProcsTyped.{procs_typed}
use Rattle.bpl_resolve.proofs.TextLeads.{texts_typed}

pub module_typed : (ds : List Decl) → fault_of ds ≡ None → IsTypedModule (module_of ds)
module_typed ds none = record {
  functions = functions_typed ds none;
  axioms = axioms_typed ds none;
  clauses = global_clauses_typed ds none;
  procs = procs_typed ds none;
  texts = texts_typed ds;
}
