-- What an error says of a program that takes carriers for something else.
use Rattle.std.specs.Prelude.{◌≡◌, ⊤, List, Some}
use Rattle.bpl_ast.specs.Statement.{Decl}
use Rattle.user_types.specs.CarrierFaults.{carrier_fault}
use Rattle.bpl_sorts.specs.declared.carriers.CarrierFault.{CarrierFault}
use Rattle.bpl_sorts.specs.declared.carriers.CarrierFault.TheVariants.{Carrier, Memory}

-- of want of memory nothing is said
abbrev pub IsCarrierFault : List Decl → CarrierFault → Type 0
IsCarrierFault ds (Carrier d p) = carrier_fault ds ≡ Some (d, p)
IsCarrierFault ds Memory = ⊤
