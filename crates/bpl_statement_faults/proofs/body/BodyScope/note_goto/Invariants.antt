use Rattle.std.proofs.Common.{◌≡◌, drop, flat_map}
use Rattle.bpl_scopes.specs.Fault.{earlier, first_fault}
use Rattle.bpl_statement_faults.specs.BodyView.{body_seen, position_seen}
use Rattle.bpl_statement_faults.specs.StmtFaults.{label_faults}
use Rattle.bpl_statement_faults.proofs.body.BodyScope.note_goto.Given as goal

abbrev pub invariant-loop-label : goal.invariant-loop-label
invariant-loop-label l = earlier l.faults.first (first_fault (flat_map (label_faults (body_seen l.self) (position_seen l.in_loop l.labels)) (drop l.label-index l.named))) ≡ earlier l.fn.faults.first (first_fault (flat_map (label_faults (body_seen l.self) (position_seen l.in_loop l.labels)) l.named))
