use Rattle.std.proofs.Common.{◌≡◌, drop, flat_map}
use Rattle.bpl_scopes.specs.Fault.{earlier, first_fault}
use Rattle.bpl_declaration_faults.specs.DeclFaults.{modified_faults}
use Rattle.bpl_declaration_faults.proofs.declared.Declared.note_each_modified.Given as goal

abbrev pub invariant-loop-name : goal.invariant-loop-name
invariant-loop-name l = earlier l.faults.first (first_fault (flat_map (modified_faults l.self.environment.now l.hidden) (drop l.name-index l.names))) ≡ earlier l.fn.faults.first (first_fault (flat_map (modified_faults l.self.environment.now l.hidden) l.names))
