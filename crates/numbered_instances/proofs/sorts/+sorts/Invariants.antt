use Rattle.std.proofs.Common.{◌≡◌, ◌+◌, ◌*◌, [], drop}
use Rattle.logic_core.specs.View.{trees_of, parts_of}
use Rattle.logic_core.specs.Sorts.{are, are_ints}
use Rattle.numbered_terms.specs.Lists.{atoms_at, terms_at}
use Rattle.numbered_instances.proofs.sorts.+sorts.Given as goal

abbrev pub decreases-sort_over : goal.decreases-sort_over
decreases-sort_over l = 6 * l.id + 4

abbrev pub decreases-has_sort : goal.decreases-has_sort
decreases-has_sort l = 6 * l.id + 6

abbrev pub decreases-has_found : goal.decreases-has_found
decreases-has_found l = 6 * l.id + 5

abbrev pub decreases-reads_free : goal.decreases-reads_free
decreases-reads_free l = 6 * l.below + 1

abbrev pub decreases-reads_found : goal.decreases-reads_found
decreases-reads_found l = 6 * l.below + 2

abbrev pub decreases-reads : goal.decreases-reads
decreases-reads l = 6 * l.below + 3

abbrev pub decreases-sum_sort : goal.decreases-sum_sort
decreases-sum_sort l = 6 * l.below + 1

abbrev pub decreases-product_sort : goal.decreases-product_sort
decreases-product_sort l = 6 * l.below + 1

abbrev pub decreases-read_sort : goal.decreases-read_sort
decreases-read_sort l = 6 * l.below + 1

abbrev pub decreases-are : goal.decreases-are
decreases-are l = 6 * l.below + 1

abbrev pub decreases-call_sort : goal.decreases-call_sort
decreases-call_sort l = 6 * l.below + 2

abbrev pub invariant-sum_sort-loop-part : goal.invariant-sum_sort-loop-part
invariant-sum_sort-loop-part l = are_ints l.vars l.defs [] (parts_of (atoms_at l.terms (drop l.part-index l.parts))) ≡ are_ints l.vars l.defs [] (parts_of (atoms_at l.terms l.parts))

abbrev pub invariant-are-loop-i : goal.invariant-are-loop-i
invariant-are-loop-i l = are l.vars l.defs [] (drop l.i l.sorts) (trees_of (terms_at l.terms (drop l.i l.ids))) ≡ are l.vars l.defs [] l.sorts (trees_of (terms_at l.terms l.ids))
