use Rattle.std.proofs.Common.{◌≡◌, drop}
use Rattle.bpl_scopes.specs.Fault.{earlier, first_fault}
use Rattle.bpl_scopes.specs.KnownSorts.{shapes_seen}
use Rattle.bpl_statement_faults.specs.StmtFaults.{outs_faults}
use Rattle.bpl_statement_faults.proofs.calls.note_outs.Given as goal

abbrev pub invariant-loop-i : goal.invariant-loop-i
invariant-loop-i l = earlier l.faults.first (first_fault (outs_faults (shapes_seen (drop l.i l.targets)) (shapes_seen (drop l.i l.outs)) l.at)) ≡ earlier l.fn.faults.first (first_fault (outs_faults (shapes_seen l.targets) (shapes_seen l.outs) l.at))
