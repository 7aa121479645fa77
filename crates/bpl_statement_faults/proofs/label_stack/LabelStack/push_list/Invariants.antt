use Rattle.std.proofs.Common.{◌≡◌, ◌≤◌, ◌++◌, drop, length}
use Rattle.bpl_ast.specs.StmtView.{stmts_of}
use Rattle.bpl_statement_faults.specs.StmtFaults.{labels_of_list}
use Rattle.bpl_statement_faults.proofs.label_stack.LabelStack.push_list.Given as goal

abbrev pub invariant-loop-left : goal.invariant-loop-left
invariant-loop-left l = record {
  stack : l.self ≡ labels_of_list (stmts_of (drop l.left l.stmts)) ++ l.fn.self;
  within : l.left ≤ length l.stmts;
}

abbrev pub decreases-loop-left : goal.decreases-loop-left
decreases-loop-left l = l.left
