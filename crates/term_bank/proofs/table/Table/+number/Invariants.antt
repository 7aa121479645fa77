use Rattle.std.proofs.Common.{◌≡◌, ◌+◌, ◌*◌, drop, take}
use Rattle.logic_core.specs.Tree.{nodes}
use Rattle.logic_core.specs.View.{trees_of, patterns_of}
use Rattle.term_bank.specs.Standing.{triggers, row_of}
use Rattle.term_bank.specs.Numbered.{with_each, with_patterns, Begins, AreNumbers, AreLists}
use Rattle.term_bank.proofs.table.Table.+number.Given as goal

abbrev pub decreases-number : goal.decreases-number
decreases-number l = 3 * nodes l.term.now + 2

abbrev pub decreases-number_lists : goal.decreases-number_lists
decreases-number_lists l = 3 * nodes l.term.now + 1

abbrev pub decreases-number_row : goal.decreases-number_row
decreases-number_row l = 3 * nodes l.term.now

-- what is there, and then what the rest adds, is what all add
abbrev pub invariant-number_row-loop-item : goal.invariant-number_row-loop-item
invariant-number_row-loop-item l = record {
  terms : with_each l.self.terms (trees_of (drop l.item (row_of l.term l.pattern))) ≡ with_each l.fn.self.terms (trees_of (row_of l.term l.pattern));
  numbers : AreNumbers l.self.terms l.numbers.items (take l.item (row_of l.term l.pattern));
  kept : Begins l.fn.self.terms l.self.terms;
  standing : Begins l.fn.self.standing l.self.standing;
}

abbrev pub invariant-number_lists-loop-pattern : goal.invariant-number_lists-loop-pattern
invariant-number_lists-loop-pattern l = record {
  terms : with_patterns l.self.terms (patterns_of (drop l.pattern (triggers l.term))) ≡ with_patterns l.fn.self.terms (patterns_of (triggers l.term));
  numbers : AreLists l.self.terms l.lists.items (take l.pattern (triggers l.term));
  kept : Begins l.fn.self.terms l.self.terms;
  standing : Begins l.fn.self.standing l.self.standing;
}
