-- Declarations that open are a program.
use Rattle.std.proofs.Common.{◌≡◌, List}
use Rattle.bv_base.specs.declared.place.Place.{Place}
use Rattle.bpl_ast.specs.Statement.{Decl}
use Rattle.bpl_scopes.specs.declared.fault.Fault.{Fault}
use Rattle.bpl_declaration_faults.specs.DeclFaults.{fault_of}
use Rattle.bpl_model.specs.Module.{Module}
use Rattle.user_types.specs.Erased.{erased, told_apart}
use Rattle.user_types.proofs.NoneTaken.{no_fault}
use Rattle.bpl_resolve.specs.Elaborated.{IsElaborated}
use Rattle.bpl_resolve.specs.Elaborate.{module_of}
use Rattle.program_opening.specs.Opening.{program, opening}
use Rattle.program_opening.proofs.Openings.{program_of}
use Rattle.report_laws.specs.Called.{IsProgramOf}

is_elaborated : (ds : List Decl) (m : Module) → m ≡ module_of ds → IsElaborated ds m
is_elaborated ds m e = record { consts = λ i. (e i).consts; axioms = λ i. (e i).axioms; functions = λ i. (e i).functions; globals = λ i. (e i).globals; procs = λ i. (e i).procs }

pub opens_as : (ds : List Decl) (m : Module) → program m ≡ opening ds → IsProgramOf ds m
opens_as ds m e =
    let found = program_of ds m e in
    record { faultless = found.0; told = no_fault (fault_of (told_apart ds)) found.2; is = is_elaborated (erased ds) m found.1 }
