-- Where a program takes no user type for another type, each expression of its own declarations has its type.
use Rattle.std.specs.Prelude.{◌≡◌, List, None}
use Rattle.bpl_ast.specs.Statement.{Decl}
use Rattle.bpl_declaration_faults.specs.DeclFaults.{fault_of}
use Rattle.bpl_resolve.specs.Elaborate.{module_of}
use Rattle.user_types.specs.Erased.{axioms_after, erased}
use Rattle.user_types.specs.CarrierFaults.{carrier_fault}
use Rattle.bpl_sorts.specs.DeclaredTypes.{declared_types}
use Rattle.bpl_sorts.specs.TypedModule.{HasTypes}

-- the module's further axioms say which carriers its unique constants are
abbrev pub HasDeclaredTypes : List Decl → Type 0
HasDeclaredTypes ds = HasTypes (declared_types ds) (axioms_after 0 ds) (module_of (erased ds))

abbrev pub PassingProgramsHaveTypes : Type 0
PassingProgramsHaveTypes = (ds : List Decl) → fault_of (erased ds) ≡ None → carrier_fault ds ≡ None → HasDeclaredTypes ds
