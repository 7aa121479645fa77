use Rattle.std.proofs.Common.{arith, drop-cons}
use Rattle.std.proofs.lemmas.Grind.{common_steps}
use Rattle.bpl_statement_faults.proofs.LabelSteps.{labels_next, branch_labels_next}
use Rattle.bpl_statement_faults.proofs.labels.+labels.Goals as goal

pub push_labels-loop-stmt-preserved : goal.push_labels-loop-stmt-preserved
push_labels-loop-stmt-preserved t c = grind (arith, common_steps, labels_next, drop-cons)

pub push_branch_labels-loop-branch-preserved : goal.push_branch_labels-loop-branch-preserved
push_branch_labels-loop-branch-preserved t c = grind (arith, common_steps, branch_labels_next, drop-cons)
