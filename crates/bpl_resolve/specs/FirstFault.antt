-- What a refusal says.
use Rattle.std.specs.Prelude.{◌≡◌, List, Some, ⊤}
use Rattle.bpl_ast.specs.Statement.{Decl}
use Rattle.bpl_declaration_faults.specs.DeclFaults.{fault_of}
use Rattle.bpl_resolve.specs.FaultView.{fault_seen}
use Rattle.bpl_resolve.specs.declared.fault.ResolveFault.{ResolveFault}
use Rattle.bpl_resolve.specs.declared.fault.ResolveFault.TheVariants.{Fault, Memory}

-- the first fault of the program, with its kind and place; of want of memory nothing is said
abbrev pub IsFirstFault : List Decl → ResolveFault → Type 0
IsFirstFault ds (Fault f) = fault_of ds ≡ Some (fault_seen f)
IsFirstFault ds Memory = ⊤
