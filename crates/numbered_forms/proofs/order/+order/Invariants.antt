use Rattle.std.proofs.Common.{◌≡◌, ◌+◌, ◌*◌, drop}
use Rattle.logic_core.specs.View.{trees_of, parts_of, patterns_of}
use Rattle.logic_core.specs.Order.{trees_order, parts_order, patterns_order}
use Rattle.numbered_terms.specs.Lists.{terms_at, atoms_at, lists_at}
use Rattle.numbered_forms.proofs.order.+order.Given as goal

abbrev pub decreases-compare : goal.decreases-compare
decreases-compare l = 4 * l.a + 3

abbrev pub decreases-compare_inside : goal.decreases-compare_inside
decreases-compare_inside l = 4 * l.below + 2

abbrev pub decreases-compare_lists : goal.decreases-compare_lists
decreases-compare_lists l = 4 * l.below + 1

abbrev pub decreases-compare_terms : goal.decreases-compare_terms
decreases-compare_terms l = 4 * l.below

abbrev pub decreases-compare_atoms : goal.decreases-compare_atoms
decreases-compare_atoms l = 4 * l.below

abbrev pub invariant-compare_terms-loop-i : goal.invariant-compare_terms-loop-i
invariant-compare_terms-loop-i l = trees_order (trees_of (terms_at l.terms (drop l.i l.mine))) (trees_of (terms_at l.terms (drop l.i l.theirs))) ≡ trees_order (trees_of (terms_at l.terms l.mine)) (trees_of (terms_at l.terms l.theirs))

abbrev pub invariant-compare_atoms-loop-i : goal.invariant-compare_atoms-loop-i
invariant-compare_atoms-loop-i l = parts_order (parts_of (atoms_at l.terms (drop l.i l.mine))) (parts_of (atoms_at l.terms (drop l.i l.theirs))) ≡ parts_order (parts_of (atoms_at l.terms l.mine)) (parts_of (atoms_at l.terms l.theirs))

abbrev pub invariant-compare_lists-loop-i : goal.invariant-compare_lists-loop-i
invariant-compare_lists-loop-i l = patterns_order (patterns_of (lists_at l.terms (drop l.i l.mine))) (patterns_of (lists_at l.terms (drop l.i l.theirs))) ≡ patterns_order (patterns_of (lists_at l.terms l.mine)) (patterns_of (lists_at l.terms l.theirs))
