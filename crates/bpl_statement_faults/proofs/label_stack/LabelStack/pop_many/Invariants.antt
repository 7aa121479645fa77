use Rattle.std.proofs.Common.{◌≡◌, drop}
use Rattle.bpl_statement_faults.proofs.label_stack.LabelStack.pop_many.Given as goal

abbrev pub invariant-loop-i : goal.invariant-loop-i
invariant-loop-i l = l.self ≡ drop l._i l.fn.self
