use Rattle.std.proofs.Common.{◌≡◌, drop, flat_map}
use Rattle.bpl_scopes.specs.Fault.{earlier, first_fault}
use Rattle.bpl_faults.specs.Arguments.{names_seen}
use Rattle.bpl_statement_faults.specs.BodyView.{body_seen}
use Rattle.bpl_statement_faults.specs.StmtFaults.{target_faults}
use Rattle.bpl_statement_faults.proofs.body.BodyScope.note_each_target.Given as goal

abbrev pub invariant-loop-name : goal.invariant-loop-name
invariant-loop-name l = earlier l.faults.first (first_fault (flat_map (target_faults (body_seen l.self)) (names_seen (drop l.name-index l.names)))) ≡ earlier l.fn.faults.first (first_fault (flat_map (target_faults (body_seen l.self)) (names_seen l.names)))
