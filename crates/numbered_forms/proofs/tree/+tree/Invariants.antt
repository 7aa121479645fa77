use Rattle.std.proofs.Common.{◌≡◌, ◌+◌, ◌*◌, take}
use Rattle.logic_core.specs.View.{each_items}
use Rattle.numbered_terms.specs.Lists.{terms_at, atoms_at, lists_at}
use Rattle.numbered_forms.proofs.tree.+tree.Given as goal

abbrev pub decreases-tree : goal.decreases-tree
decreases-tree l = 4 * l.id + 3

abbrev pub decreases-boxed_tree : goal.decreases-boxed_tree
decreases-boxed_tree l = 4 * l.id + 4

abbrev pub decreases-tree_each : goal.decreases-tree_each
decreases-tree_each l = 4 * l.below

abbrev pub decreases-tree_atoms : goal.decreases-tree_atoms
decreases-tree_atoms l = 4 * l.below

abbrev pub decreases-tree_lists : goal.decreases-tree_lists
decreases-tree_lists l = 4 * l.below + 1

abbrev pub invariant-tree_each-loop-i : goal.invariant-tree_each-loop-i
invariant-tree_each-loop-i l = l.trees.items ≡ terms_at l.terms (take l.i l.ids)

abbrev pub invariant-tree_atoms-loop-i : goal.invariant-tree_atoms-loop-i
invariant-tree_atoms-loop-i l = l.trees.items ≡ atoms_at l.terms (take l.i l.parts)

abbrev pub invariant-tree_lists-loop-i : goal.invariant-tree_lists-loop-i
invariant-tree_lists-loop-i l = each_items l.trees.items ≡ lists_at l.terms (take l.i l.lists)
