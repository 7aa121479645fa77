-- What the code's answer stands for.
use Rattle.std.specs.Prelude.{ℕ}
use Rattle.bpl_scopes.specs.declared.fault.Fault.{Fault}
use Rattle.bpl_resolve.specs.declared.type_fault.TypeFault.{TypeFault}

abbrev pub fault_seen : TypeFault → ℕ × Fault
fault_seen f = (f.decl, record { at = f.at; kind = f.kind })
