use Rattle.std.proofs.Common.{◌+◌, ◌*◌, take}
use Rattle.logic_core.specs.Tree.{nodes}
use Rattle.term_bank.specs.Standing.{triggers, row_of}
use Rattle.term_bank.specs.Numbered.{Begins, AreNumbers, AreLists}
use Rattle.numbered_terms.proofs.number.+number.Given as goal

abbrev pub decreases-number : goal.decreases-number
decreases-number l = 3 * nodes l.term.now + 2

abbrev pub decreases-number_lists : goal.decreases-number_lists
decreases-number_lists l = 3 * nodes l.term.now + 1

abbrev pub decreases-number_row : goal.decreases-number_row
decreases-number_row l = 3 * nodes l.term.now

abbrev pub invariant-number_row-loop-item : goal.invariant-number_row-loop-item
invariant-number_row-loop-item l = record {
  grows : Begins l.fn.terms l.terms;
  numbers : AreNumbers l.terms l.numbers.items (take l.item (row_of l.term l.pattern));
}

abbrev pub invariant-number_lists-loop-pattern : goal.invariant-number_lists-loop-pattern
invariant-number_lists-loop-pattern l = record {
  grows : Begins l.fn.terms l.terms;
  numbers : AreLists l.terms l.lists.items (take l.pattern (triggers l.term));
}
