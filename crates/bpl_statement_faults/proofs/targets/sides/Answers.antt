use Rattle.std.proofs.Common.{arith}
use Rattle.std.proofs.lemmas.Grind.{common_steps}
use Rattle.bpl_faults.specs.ScopeView.{scope_seen}
use Rattle.bpl_statement_faults.specs.StmtFaults.{indices_faults}
use Rattle.bpl_statement_faults.proofs.StmtSteps.{walked}
use Rattle.bpl_statement_faults.proofs.targets.sides.Goals as goal

pub loop-target-preserved : goal.loop-target-preserved
loop-target-preserved c = record {
  found = walked (indices_faults (scope_seen c.args.scope.now)) c.args.targets.now c.loop-target.target-index c.target-item.result
      c.loop-target.faults.first c.note_entry.new.faults.first _ c.loop-target-test.true c.target-item.is (grind (arith, common_steps)) c.loop-target.invariant.found;
  sorts = grind (arith, common_steps);
}
