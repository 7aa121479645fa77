-- The first place at which user types are taken for integers or for one another.
use Rattle.std.specs.Prelude.{ℕ, List, Option, option_map}
use Rattle.bv_base.specs.declared.place.Place.{Place}
use Rattle.bpl_ast.specs.Statement.{Decl}
use Rattle.bpl_scopes.specs.declared.fault.Fault.{Fault}
use Rattle.bpl_declaration_faults.specs.DeclFaults.{fault_of}
use Rattle.user_types.specs.Erased.{told_apart}

-- the position of its declaration, and its place there
abbrev pub carrier_fault : List Decl → Option (ℕ × Place)
carrier_fault ds = option_map (λ (p : ℕ × Fault). (p.0, p.1.at)) (fault_of (told_apart ds))
