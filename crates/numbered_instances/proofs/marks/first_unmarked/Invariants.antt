use Rattle.std.proofs.Common.{◌≡◌, ◌<◌, length, map, find, reverse, vec_len}
use Rattle.std.specs.List.{AllByRecursion}
use Rattle.term_bank.specs.Numbered.{at}
use Rattle.term_bank.specs.Node.{in_lists}
use Rattle.numbered_terms.specs.Lists.{lists_at}
use Rattle.numbered_terms.specs.Stored.{Grows}
use Rattle.numbered_branches.specs.Branches.{mark_at}
use Rattle.numbered_instances.specs.Instances.{is_new}
use Rattle.numbered_instances.proofs.marks.first_unmarked.Given as goal

abbrev pub invariant-loop-tuple : goal.invariant-loop-tuple
invariant-loop-tuple l = record {
  grows : Grows l.fn.store l.store;
  within : AllByRecursion (λ j. j < length l.fn.store.terms) (in_lists (reverse l.tuples.items));
  same : find (is_new (map (mark_at l.fn.store.terms) l.fn.marks) (at l.fn.store.terms l.fn.fact)) (lists_at l.fn.store.terms (reverse l.tuples.items)) ≡ find (is_new (map (mark_at l.fn.store.terms) l.fn.marks) (at l.fn.store.terms l.fn.fact)) (lists_at l.fn.store.terms l.fn.tuples.items);
}

abbrev pub decreases-loop-tuple : goal.decreases-loop-tuple
decreases-loop-tuple l = vec_len l.tuples
