use Rattle.std.proofs.Common.{◌≡◌, ◌≤◌, ◌++◌, drop, length}
use Rattle.bpl_scopes.specs.Scopes.{texts_of}
use Rattle.bpl_statement_faults.proofs.label_stack.LabelStack.push_labels.Given as goal

abbrev pub invariant-loop-left : goal.invariant-loop-left
invariant-loop-left l = record {
  stack : l.self ≡ texts_of (drop l.left l.labels) ++ l.fn.self;
  within : l.left ≤ length l.labels;
}

abbrev pub decreases-loop-left : goal.decreases-loop-left
decreases-loop-left l = l.left
