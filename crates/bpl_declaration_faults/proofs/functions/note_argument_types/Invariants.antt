use Rattle.std.proofs.Common.{◌≡◌, drop}
use Rattle.bpl_scopes.specs.Fault.{earlier, first_fault}
use Rattle.bpl_declaration_faults.specs.DeclFaults.{argument_type_faults}
use Rattle.bpl_declaration_faults.proofs.functions.note_argument_types.Given as goal

abbrev pub invariant-loop-argument : goal.invariant-loop-argument
invariant-loop-argument l = earlier l.faults.first (first_fault (argument_type_faults l.types (drop l.argument-index l.ins))) ≡ earlier l.fn.faults.first (first_fault (argument_type_faults l.types l.ins))
