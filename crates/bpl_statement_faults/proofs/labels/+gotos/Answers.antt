use Rattle.std.proofs.Common.{arith, drop-cons}
use Rattle.std.proofs.lemmas.Grind.{common_steps}
use Rattle.bpl_statement_faults.proofs.LabelSteps.{gotos_next, branch_gotos_next}
use Rattle.bpl_statement_faults.proofs.labels.+gotos.Goals as goal

pub push_gotos-loop-stmt-preserved : goal.push_gotos-loop-stmt-preserved
push_gotos-loop-stmt-preserved t c = grind (arith, common_steps, gotos_next, drop-cons)

pub push_branch_gotos-loop-branch-preserved : goal.push_branch_gotos-loop-branch-preserved
push_branch_gotos-loop-branch-preserved t c = grind (arith, common_steps, branch_gotos_next, drop-cons)
