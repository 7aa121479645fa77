use Rattle.std.proofs.Common.{◌≡◌, ◌+◌, ◌*◌, ◌<◌, length, option_map, drop}
use Rattle.std.specs.List.{AllByRecursion}
use Rattle.logic_core.specs.View.{trees_of, parts_of, patterns_of}
use Rattle.logic_core.specs.Before.{before, tree_before}
use Rattle.logic_core.specs.Sum.{constant}
use Rattle.logic_core.specs.Normal.{normal_each, normal_sum, normal_patterns}
use Rattle.term_bank.specs.Numbered.{Begins}
use Rattle.term_bank.specs.Node.{in_lists}
use Rattle.numbered_terms.specs.Lists.{terms_at, atoms_at, lists_at, AtomsBelow}
use Rattle.numbered_forms.specs.Forms.{AreForms}
use Rattle.numbered_forms.specs.Sums.{sum_at}
use Rattle.numbered_forms.proofs.NormalParts.{row_before}
use Rattle.numbered_forms.proofs.+normal.Given as goal

abbrev pub decreases-normal::normal_under : goal.decreases-normal::normal_under
decreases-normal::normal_under l = 8 * l.id + 7

abbrev pub decreases-normal::normal_closed : goal.decreases-normal::normal_closed
decreases-normal::normal_closed l = 8 * l.id + 6

abbrev pub decreases-normal::normal_node : goal.decreases-normal::normal_node
decreases-normal::normal_node l = 8 * l.id + 5

abbrev pub decreases-listed::normal_parts : goal.decreases-listed::normal_parts
decreases-listed::normal_parts l = 8 * l.below + 3

abbrev pub decreases-listed::normal_three : goal.decreases-listed::normal_three
decreases-listed::normal_three l = 8 * l.below + 2

abbrev pub decreases-listed::normal_two : goal.decreases-listed::normal_two
decreases-listed::normal_two l = 8 * l.below + 1

abbrev pub decreases-listed::normal_lists : goal.decreases-listed::normal_lists
decreases-listed::normal_lists l = 8 * l.below + 1

abbrev pub decreases-listed::normal_each : goal.decreases-listed::normal_each
decreases-listed::normal_each l = 8 * l.below

abbrev pub decreases-listed::normal_sum : goal.decreases-listed::normal_sum
decreases-listed::normal_sum l = 8 * l.below + 2

abbrev pub decreases-listed::normal_atoms : goal.decreases-listed::normal_atoms
decreases-listed::normal_atoms l = 8 * l.below + 1

abbrev pub decreases-listed::normal_atom : goal.decreases-listed::normal_atom
decreases-listed::normal_atom l = 8 * l.id + 8

abbrev pub decreases-constructs::normal_product : goal.decreases-constructs::normal_product
decreases-constructs::normal_product l = 8 * l.below + 4

abbrev pub decreases-constructs::normal_read : goal.decreases-constructs::normal_read
decreases-constructs::normal_read l = 8 * l.below + 4

abbrev pub decreases-constructs::normal_inequality : goal.decreases-constructs::normal_inequality
decreases-constructs::normal_inequality l = 8 * l.below + 4

abbrev pub decreases-constructs::normal_equation : goal.decreases-constructs::normal_equation
decreases-constructs::normal_equation l = 8 * l.below + 4

abbrev pub decreases-constructs::normal_write : goal.decreases-constructs::normal_write
decreases-constructs::normal_write l = 8 * l.below + 4

abbrev pub decreases-constructs::normal_choice : goal.decreases-constructs::normal_choice
decreases-constructs::normal_choice l = 8 * l.below + 4

abbrev pub decreases-constructs::normal_call : goal.decreases-constructs::normal_call
decreases-constructs::normal_call l = 8 * l.below + 4

abbrev pub decreases-constructs::normal_conjunction : goal.decreases-constructs::normal_conjunction
decreases-constructs::normal_conjunction l = 8 * l.below + 4

abbrev pub decreases-constructs::normal_disjunction : goal.decreases-constructs::normal_disjunction
decreases-constructs::normal_disjunction l = 8 * l.below + 4

abbrev pub decreases-constructs::normal_negation : goal.decreases-constructs::normal_negation
decreases-constructs::normal_negation l = 8 * l.below + 4

abbrev pub decreases-constructs::normal_for_all : goal.decreases-constructs::normal_for_all
decreases-constructs::normal_for_all l = 8 * l.below + 4

abbrev pub decreases-constructs::normal_exists : goal.decreases-constructs::normal_exists
decreases-constructs::normal_exists l = 8 * l.below + 4

abbrev pub invariant-listed::normal_each-loop-id : goal.invariant-listed::normal_each-loop-id
invariant-listed::normal_each-loop-id l = record {
  made : option_map (before tree_before (terms_at l.terms l.done.items)) (normal_each l.vars l.defs l.bound (trees_of (terms_at l.fn.terms (drop l.id-index l.ids)))) ≡ normal_each l.vars l.defs l.bound (trees_of (terms_at l.fn.terms l.ids));
  within : AllByRecursion (λ j. j < length l.terms) l.done.items;
  forms : AreForms l.vars l.defs l.terms l.forms.slots.items;
  grows : Begins l.fn.terms l.terms;
}

abbrev pub invariant-listed::normal_lists-loop-list : goal.invariant-listed::normal_lists-loop-list
invariant-listed::normal_lists-loop-list l = record {
  made : option_map (before row_before (lists_at l.terms l.done.items)) (normal_patterns l.vars l.defs l.bound (patterns_of (lists_at l.fn.terms (drop l.list-index l.lists)))) ≡ normal_patterns l.vars l.defs l.bound (patterns_of (lists_at l.fn.terms l.lists));
  within : AllByRecursion (λ j. j < length l.terms) (in_lists l.done.items);
  forms : AreForms l.vars l.defs l.terms l.forms.slots.items;
  grows : Begins l.fn.terms l.terms;
}

abbrev pub invariant-listed::normal_atoms-loop-part : goal.invariant-listed::normal_atoms-loop-part
invariant-listed::normal_atoms-loop-part l = record {
  left : normal_sum l.vars l.defs l.bound (parts_of (atoms_at l.fn.terms (drop l.part-index l.parts))) (sum_at l.terms l.sum) ≡ normal_sum l.vars l.defs l.bound (parts_of (atoms_at l.fn.terms l.parts)) (constant l.fn.c);
  within : AtomsBelow (length l.terms) l.sum.parts.items;
  forms : AreForms l.vars l.defs l.terms l.forms.slots.items;
  grows : Begins l.fn.terms l.terms;
}
