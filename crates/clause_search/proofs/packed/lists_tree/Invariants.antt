use Rattle.std.proofs.Common.{◌≡◌, ◌++◌, map, length, vec_len}
use Rattle.std.specs.List.{AllByRecursion}
use Rattle.tableau_branch.specs.View.{each_steps}
use Rattle.numbered_branches.specs.Branches.{IsStepBelow, step_at}
use Rattle.clause_search.specs.Packed.{packed_lists}
use Rattle.clause_search.proofs.packed.lists_tree.Given as goal

abbrev pub invariant-loop-list : goal.invariant-loop-list
invariant-loop-list l = record {
  below : AllByRecursion (AllByRecursion (IsStepBelow (length l.terms))) (packed_lists l.packed.items);
  trees : each_steps l.trees.items ++ map (map (step_at l.terms)) (packed_lists l.packed.items) ≡ map (map (step_at l.terms)) (packed_lists l.fn.packed.items);
}

abbrev pub decreases-loop-list : goal.decreases-loop-list
decreases-loop-list l = vec_len l.packed
