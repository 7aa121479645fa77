use Rattle.std.proofs.Common.{◌≡◌, ◌++◌, map, reverse, vec_len}
use Rattle.numbered_branches.specs.View.{each_seen}
use Rattle.clause_search.specs.Packed.{packed_lists}
use Rattle.clause_search.proofs.packed.pack_lists.Given as goal

abbrev pub invariant-loop-list : goal.invariant-loop-list
invariant-loop-list l = each_seen l.lists.items ++ packed_lists l.packed.items ≡ each_seen l.fn.lists.items

abbrev pub decreases-loop-list : goal.decreases-loop-list
decreases-loop-list l = vec_len l.lists
