use Rattle.std.proofs.Common.{◌≡◌, ◌∙◌, ◌<◌, sym, ap, subst, ℕ, ℤ, Vec, Option, Some, None, option_map, [], ◌++◌, map, reverse, length, arith, FitsSigned, rules}
use Rattle.std.specs.Int.{w128}
use Rattle.std.specs.List.{AllByRecursion}
use Rattle.std.specs.declared.alloc.Global.{Global}
use Rattle.std.proofs.lemmas.Int.{to_z-of_z}
use Rattle.logic_core.specs.Gives.{GivesAs}
use Rattle.logic_core.specs.Tree.{Tree, linear, read, write, call, all, some, for_all, exists}
use Rattle.logic_core.specs.View.{trees_of, parts_of, patterns_of}
use Rattle.logic_core.specs.Before.{before, tree_before}
use Rattle.logic_core.specs.Sum.{constant, add_term, term_of, product}
use Rattle.logic_core.specs.Junction.{conjunction, disjunction, negated}
use Rattle.logic_core.specs.Sorts.{sort_of}
use Rattle.logic_core.specs.Wide.{◌>>=◌}
use Rattle.logic_core.specs.Normal.{normal, normal_each, normal_sum, normal_patterns, choice, equation, inequality, quantified}
use Rattle.logic_core.proofs.Refused.{gives_err}
use Rattle.term_bank.specs.Numbered.{at}
use Rattle.term_bank.specs.Node.{tree_over, numbers_in, in_lists}
use Rattle.term_bank.proofs.Numbers.{begins_same, begins_then, begins_at, begins_length}
use Rattle.numbered_terms.specs.At.{IsAt, GivesAt}
use Rattle.numbered_terms.specs.Lists.{terms_at, atoms_at, lists_at, AtomsBelow}
use Rattle.numbered_terms.proofs.Items.{item_below, atom_below, row_below, all_lower}
use Rattle.numbered_terms.proofs.Walking.{still_below}
use Rattle.numbered_forms.specs.Forms.{normal_two, normal_three, normal_parts, normal_atom}
use Rattle.numbered_forms.specs.Sums.{sum_at}
use Rattle.numbered_forms.proofs.LongerStores.{lists_stay, numbers_stay}
use Rattle.numbered_forms.proofs.Memos.{kept_more, kept_alike}
use Rattle.numbered_forms.proofs.Negations.{copies_all, copies_same, next_below}
use Rattle.numbered_forms.proofs.NormalParts.{pair_made, sum_stays, forms_later, row_before, no_trees_before, no_rows_before, each_next, each_none, each_all, rows_next, rows_none, rows_all, rows_below, atom_next, atom_none, atoms_all}
use Rattle.numbered_forms.proofs.FromForms.{at_err, first_none, last_none, last_two_none, three_forms, one_given, one_made, one_refused, one_unmade, two_given, two_made, two_refused, three_made, three_refused, parts_made, parts_refused, form_before, two_before, two_forms}
use Rattle.numbered_forms.proofs.+normal.Goals as goal

pub constructs::normal_call-returns-in_err-make-clause-forms : goal.constructs::normal_call-returns-in_err-make-clause-forms
constructs::normal_call-returns-in_err-make-clause-forms t c = forms_later c.args.vars.now c.args.defs.now c.normal_each.new.terms c.make.new.self c.normal_each.new.forms.slots.items c.make.ensures.grows c.normal_each.ensures.forms

pub constructs::normal_call-returns-clause-forms : goal.constructs::normal_call-returns-clause-forms
constructs::normal_call-returns-clause-forms t c = forms_later c.args.vars.now c.args.defs.now c.normal_each.new.terms c.make.new.self c.normal_each.new.forms.slots.items c.make.ensures.grows c.normal_each.ensures.forms

pub constructs::normal_choice-returns-in_err-choice-clause-forms : goal.constructs::normal_choice-returns-in_err-choice-clause-forms
constructs::normal_choice-returns-in_err-choice-clause-forms t c = forms_later c.args.vars.now c.args.defs.now c.normal_three.new.terms c.choice.new.terms c.normal_three.new.forms.slots.items c.choice.ensures.grows c.normal_three.ensures.forms

pub constructs::normal_choice-returns-clause-forms : goal.constructs::normal_choice-returns-clause-forms
constructs::normal_choice-returns-clause-forms t c = forms_later c.args.vars.now c.args.defs.now c.normal_three.new.terms c.choice.new.terms c.normal_three.new.forms.slots.items c.choice.ensures.grows c.normal_three.ensures.forms

pub constructs::normal_conjunction-returns-in_err-junction-clause-forms : goal.constructs::normal_conjunction-returns-in_err-junction-clause-forms
constructs::normal_conjunction-returns-in_err-junction-clause-forms t c = forms_later c.args.vars.now c.args.defs.now c.normal_each.new.terms c.junction.new.terms c.normal_each.new.forms.slots.items c.junction.ensures.grows c.normal_each.ensures.forms

pub constructs::normal_conjunction-returns-clause-forms : goal.constructs::normal_conjunction-returns-clause-forms
constructs::normal_conjunction-returns-clause-forms t c = forms_later c.args.vars.now c.args.defs.now c.normal_each.new.terms c.junction.new.terms c.normal_each.new.forms.slots.items c.junction.ensures.grows c.normal_each.ensures.forms

pub constructs::normal_disjunction-returns-in_err-junction-clause-forms : goal.constructs::normal_disjunction-returns-in_err-junction-clause-forms
constructs::normal_disjunction-returns-in_err-junction-clause-forms t c = forms_later c.args.vars.now c.args.defs.now c.normal_each.new.terms c.junction.new.terms c.normal_each.new.forms.slots.items c.junction.ensures.grows c.normal_each.ensures.forms

pub constructs::normal_disjunction-returns-clause-forms : goal.constructs::normal_disjunction-returns-clause-forms
constructs::normal_disjunction-returns-clause-forms t c = forms_later c.args.vars.now c.args.defs.now c.normal_each.new.terms c.junction.new.terms c.normal_each.new.forms.slots.items c.junction.ensures.grows c.normal_each.ensures.forms

pub constructs::normal_equation-returns-clause-forms : goal.constructs::normal_equation-returns-clause-forms
constructs::normal_equation-returns-clause-forms t c = forms_later c.args.vars.now c.args.defs.now c.normal_two.new.terms c.equation.new.terms c.normal_two.new.forms.slots.items c.equation.ensures.grows c.normal_two.ensures.forms

pub constructs::normal_exists-returns-in_err-exists-clause-forms : goal.constructs::normal_exists-returns-in_err-exists-clause-forms
constructs::normal_exists-returns-in_err-exists-clause-forms t c = forms_later c.args.vars.now c.args.defs.now c.normal_parts.new.terms c.exists.new.terms c.normal_parts.new.forms.slots.items c.exists.ensures.grows c.normal_parts.ensures.forms

pub constructs::normal_exists-returns-clause-forms : goal.constructs::normal_exists-returns-clause-forms
constructs::normal_exists-returns-clause-forms t c = forms_later c.args.vars.now c.args.defs.now c.normal_parts.new.terms c.exists.new.terms c.normal_parts.new.forms.slots.items c.exists.ensures.grows c.normal_parts.ensures.forms

pub constructs::normal_for_all-returns-in_err-for_all-clause-forms : goal.constructs::normal_for_all-returns-in_err-for_all-clause-forms
constructs::normal_for_all-returns-in_err-for_all-clause-forms t c = forms_later c.args.vars.now c.args.defs.now c.normal_parts.new.terms c.for_all.new.terms c.normal_parts.new.forms.slots.items c.for_all.ensures.grows c.normal_parts.ensures.forms

pub constructs::normal_for_all-returns-clause-forms : goal.constructs::normal_for_all-returns-clause-forms
constructs::normal_for_all-returns-clause-forms t c = forms_later c.args.vars.now c.args.defs.now c.normal_parts.new.terms c.for_all.new.terms c.normal_parts.new.forms.slots.items c.for_all.ensures.grows c.normal_parts.ensures.forms

pub constructs::normal_inequality-returns-clause-forms : goal.constructs::normal_inequality-returns-clause-forms
constructs::normal_inequality-returns-clause-forms t c = forms_later c.args.vars.now c.args.defs.now c.normal_two.new.terms c.inequality.new.terms c.normal_two.new.forms.slots.items c.inequality.ensures.grows c.normal_two.ensures.forms

pub constructs::normal_negation-returns-clause-forms : goal.constructs::normal_negation-returns-clause-forms
constructs::normal_negation-returns-clause-forms t c = forms_later c.args.vars.now c.args.defs.now c.normal_under.new.terms c.negated.new.terms c.normal_under.new.forms.slots.items c.negated.ensures.grows c.normal_under.ensures.forms

pub constructs::normal_product-returns-clause-forms : goal.constructs::normal_product-returns-clause-forms
constructs::normal_product-returns-clause-forms t c = forms_later c.args.vars.now c.args.defs.now c.normal_two.new.terms c.product.new.terms c.normal_two.new.forms.slots.items c.product.ensures.grows c.normal_two.ensures.forms

pub constructs::normal_read-returns-in_err-make-clause-forms : goal.constructs::normal_read-returns-in_err-make-clause-forms
constructs::normal_read-returns-in_err-make-clause-forms t c = forms_later c.args.vars.now c.args.defs.now c.normal_two.new.terms c.make.new.self c.normal_two.new.forms.slots.items c.make.ensures.grows c.normal_two.ensures.forms

pub constructs::normal_read-returns-clause-forms : goal.constructs::normal_read-returns-clause-forms
constructs::normal_read-returns-clause-forms t c = forms_later c.args.vars.now c.args.defs.now c.normal_two.new.terms c.make.new.self c.normal_two.new.forms.slots.items c.make.ensures.grows c.normal_two.ensures.forms

pub constructs::normal_write-returns-in_err-make-clause-forms : goal.constructs::normal_write-returns-in_err-make-clause-forms
constructs::normal_write-returns-in_err-make-clause-forms t c = forms_later c.args.vars.now c.args.defs.now c.normal_three.new.terms c.make.new.self c.normal_three.new.forms.slots.items c.make.ensures.grows c.normal_three.ensures.forms

pub constructs::normal_write-returns-clause-forms : goal.constructs::normal_write-returns-clause-forms
constructs::normal_write-returns-clause-forms t c = forms_later c.args.vars.now c.args.defs.now c.normal_three.new.terms c.make.new.self c.normal_three.new.forms.slots.items c.make.ensures.grows c.normal_three.ensures.forms

pub listed::normal_sum-returns-in_err-make-clause-forms : goal.listed::normal_sum-returns-in_err-make-clause-forms
listed::normal_sum-returns-in_err-make-clause-forms t c = forms_later c.args.vars.now c.args.defs.now c.normal_atoms.new.terms c.make.new.terms c.normal_atoms.new.forms.slots.items c.make.ensures.grows c.normal_atoms.ensures.forms

pub listed::normal_sum-returns-clause-forms : goal.listed::normal_sum-returns-clause-forms
listed::normal_sum-returns-clause-forms t c = forms_later c.args.vars.now c.args.defs.now c.normal_atoms.new.terms c.make.new.terms c.normal_atoms.new.forms.slots.items c.make.ensures.grows c.normal_atoms.ensures.forms

pub listed::normal_sum-returns-clause-grows : goal.listed::normal_sum-returns-clause-grows
listed::normal_sum-returns-clause-grows t c = begins_then c.args.terms.now c.normal_atoms.new.terms c.make.new.terms c.normal_atoms.ensures.grows c.make.ensures.grows

pub listed::normal_atom-returns-clause-gives : goal.listed::normal_atom-returns-clause-gives
listed::normal_atom-returns-clause-gives t c = let us = c.normal_under.new.terms in let f = c.in_ok-form.ensures.gives in
    let s = sum_stays c.args.terms.now us c.normal_under.ensures.grows c.args.sum c.requires.sum in
    let e = ap (λ (o : Option Tree). o >>= λ u. add_term c.args.k u (sum_at c.args.terms.now c.args.sum)) f.1 ∙ ap (add_term c.args.k (at us c.in_ok-form.form)) (sym s) in
    subst (GivesAs (sum_at us) c.add_term.result) (sym e) (rw (to_z-of_z w128 c.args.k c.ranges.k) at c.add_term.ensures.gives)

pub listed::normal_atoms-normal_atom-requires : goal.listed::normal_atoms-normal_atom-requires
listed::normal_atoms-normal_atom-requires t c = let us = c.loop-part.terms in let b = c.loop-part.invariant.grows in
    let low = atom_below c.args.below c.args.parts.now c.loop-part.part-index c.part-item.result c.requires.parts c.loop-part-test.true c.part-item.is in
    (omega (arith, c.decreases, low), (omega (arith, low, c.requires.below, begins_length c.args.terms.now us b), (c.loop-part.invariant.within, c.loop-part.invariant.forms)))

pub listed::normal_atoms-returns-in_err-sum-clause-gives : goal.listed::normal_atoms-returns-in_err-sum-clause-gives
listed::normal_atoms-returns-in_err-sum-clause-gives t c = let us = c.loop-part.terms in let vs = c.normal_atom.new.terms in let b = c.loop-part.invariant.grows in let d = c.normal_atom.ensures.grows in
    let fits : FitsSigned w128 c.part-item.result.0 = search rules in
    let low = atom_below c.args.below c.args.parts.now c.loop-part.part-index c.part-item.result c.requires.parts c.loop-part-test.true c.part-item.is in
    let within : c.part-item.result.1 < length c.args.terms.now = omega (arith, low, c.requires.below) in
    let whole = normal_sum c.args.vars.now c.args.defs.now c.args.bound.now (parts_of (atoms_at c.args.terms.now c.args.parts.now)) (constant c.args.c) in
    gives_err (sum_at vs) c.from_residual.result c.in_err-sum.field-0.0 whole c.from_residual.ensures.1 (λ wide.
    atom_none c.args.vars.now c.args.defs.now c.args.bound.now c.args.terms.now us vs b d c.args.parts.now c.loop-part.part-index c.part-item.result (sum_at us c.loop-part.sum) whole c.loop-part-test.true c.part-item.is within (rw (to_z-of_z w128 c.part-item.result.0 fits) at (c.in_err-sum.ensures.gives wide)) (rw (to_z-of_z w128 c.args.c c.ranges.c) at c.loop-part.invariant.left))

pub listed::normal_atoms-loop-part-preserved : goal.listed::normal_atoms-loop-part-preserved
listed::normal_atoms-loop-part-preserved t c = let us = c.loop-part.terms in let vs = c.normal_atom.new.terms in let b = c.loop-part.invariant.grows in let d = c.normal_atom.ensures.grows in
    let fits : FitsSigned w128 c.part-item.result.0 = search rules in
    let low = atom_below c.args.below c.args.parts.now c.loop-part.part-index c.part-item.result c.requires.parts c.loop-part-test.true c.part-item.is in
    let within : c.part-item.result.1 < length c.args.terms.now = omega (arith, low, c.requires.below) in
    let whole = normal_sum c.args.vars.now c.args.defs.now c.args.bound.now (parts_of (atoms_at c.args.terms.now c.args.parts.now)) (constant c.args.c) in
    record {
      left = rw (to_z-of_z w128 c.args.c c.ranges.c) (atom_next c.args.vars.now c.args.defs.now c.args.bound.now c.args.terms.now us vs b d c.args.parts.now c.loop-part.part-index c.part-item.result (sum_at us c.loop-part.sum) (sum_at vs c.in_ok-sum.sum) whole c.loop-part-test.true c.part-item.is within (rw (to_z-of_z w128 c.part-item.result.0 fits) at c.in_ok-sum.ensures.gives) (rw (to_z-of_z w128 c.args.c c.ranges.c) at c.loop-part.invariant.left));
      within = c.in_ok-sum.ensures.within;
      forms = c.in_ok-sum.ensures.forms;
      grows = begins_then c.args.terms.now us vs b d;
    }

pub listed::normal_each-loop-id-preserved : goal.listed::normal_each-loop-id-preserved
listed::normal_each-loop-id-preserved t c = let us = c.loop-id.terms in let vs = c.normal_under.new.terms in let b = c.loop-id.invariant.grows in let d = c.in_ok-form.ensures.grows in let g = c.in_ok-form.ensures.gives in
    let x = c.id-item.result in
    let low : x < c.args.below = item_below c.args.below c.args.ids.now c.loop-id.id-index x c.requires.ids c.loop-id-test.true c.id-item.is in
    record {
      made = each_next c.args.vars.now c.args.defs.now c.args.bound.now c.args.terms.now us vs b d c.loop-id.done.items c.push.new.self.items c.in_ok-form.form c.loop-id.invariant.within c.in_ok-push.ensures.items c.args.ids.now c.loop-id.id-index x
          (normal_each c.args.vars.now c.args.defs.now c.args.bound.now (trees_of (terms_at c.args.terms.now c.args.ids.now))) c.loop-id-test.true c.id-item.is (omega (arith, low, c.requires.below)) g.1 c.loop-id.invariant.made;
      within = next_below c.args.terms.now us vs b d c.loop-id.done.items c.push.new.self.items c.in_ok-form.form c.loop-id.invariant.within c.in_ok-push.ensures.items g.0;
      forms = c.in_ok-form.ensures.forms;
      grows = begins_then c.args.terms.now us vs b d;
    }

pub listed::normal_each-returns-clause-gives : goal.listed::normal_each-returns-clause-gives
listed::normal_each-returns-clause-gives t c = each_all c.args.vars.now c.args.defs.now c.args.bound.now c.args.terms.now c.loop-id.terms c.loop-id.done.items c.args.ids.now c.loop-id.id-index (normal_each c.args.vars.now c.args.defs.now c.args.bound.now (trees_of (terms_at c.args.terms.now c.args.ids.now))) c.loop-id-test.false c.loop-id.invariant.made

pub listed::normal_lists-normal_each-requires : goal.listed::normal_lists-normal_each-requires
listed::normal_lists-normal_each-requires t c = let us = c.loop-list.terms in let b = c.loop-list.invariant.grows in
    let low = row_below c.args.below c.args.lists.now c.loop-list.list-index c.list-item.result c.requires.lists c.loop-list-test.true c.list-item.is in
    (omega (arith, c.decreases), (omega (arith, c.requires.below, begins_length c.args.terms.now us b), (rw c.deref.ensures.value low, c.loop-list.invariant.forms)))

pub listed::normal_lists-returns-in_err-row-clause-gives : goal.listed::normal_lists-returns-in_err-row-clause-gives
listed::normal_lists-returns-in_err-row-clause-gives t c = let us = c.loop-list.terms in let vs = c.normal_each.new.terms in let b = c.loop-list.invariant.grows in let d = c.normal_each.ensures.grows in
    let x = c.list-item.result in
    let low = all_lower c.args.below (length c.args.terms.now) x.items c.requires.below (row_below c.args.below c.args.lists.now c.loop-list.list-index x c.requires.lists c.loop-list-test.true c.list-item.is) in
    let whole = normal_patterns c.args.vars.now c.args.defs.now c.args.bound.now (patterns_of (lists_at c.args.terms.now c.args.lists.now)) in
    gives_err (λ (v : Vec (Vec ℕ Global) Global). patterns_of (lists_at vs v.items)) c.from_residual.result c.in_err-row.field-0.0 whole c.from_residual.ensures.1 (λ wide.
    rows_none c.args.vars.now c.args.defs.now c.args.bound.now c.args.terms.now us vs b d c.loop-list.done.items c.args.lists.now c.loop-list.list-index x whole c.loop-list-test.true c.list-item.is low (rw c.deref.ensures.value at (c.in_err-row.ensures.gives wide)) c.loop-list.invariant.made)

pub listed::normal_lists-loop-list-preserved : goal.listed::normal_lists-loop-list-preserved
listed::normal_lists-loop-list-preserved t c = let us = c.loop-list.terms in let vs = c.normal_each.new.terms in let b = c.loop-list.invariant.grows in let d = c.normal_each.ensures.grows in
    let x = c.list-item.result in
    let low = all_lower c.args.below (length c.args.terms.now) x.items c.requires.below (row_below c.args.below c.args.lists.now c.loop-list.list-index x c.requires.lists c.loop-list-test.true c.list-item.is) in
    let whole = normal_patterns c.args.vars.now c.args.defs.now c.args.bound.now (patterns_of (lists_at c.args.terms.now c.args.lists.now)) in
    record {
      made = rows_next c.args.vars.now c.args.defs.now c.args.bound.now c.args.terms.now us vs b d c.loop-list.done.items c.push.new.self.items c.in_ok-row.row c.loop-list.invariant.within c.in_ok-push.ensures.items c.args.lists.now c.loop-list.list-index x whole c.loop-list-test.true c.list-item.is low (rw c.deref.ensures.value at c.in_ok-row.ensures.gives) c.loop-list.invariant.made;
      within = rows_below us vs d c.loop-list.done.items c.push.new.self.items c.in_ok-row.row c.loop-list.invariant.within c.in_ok-push.ensures.items c.in_ok-row.ensures.within;
      forms = c.in_ok-row.ensures.forms;
      grows = begins_then c.args.terms.now us vs b d;
    }

pub listed::normal_lists-returns-clause-gives : goal.listed::normal_lists-returns-clause-gives
listed::normal_lists-returns-clause-gives t c = rows_all c.args.vars.now c.args.defs.now c.args.bound.now c.args.terms.now c.loop-list.terms c.loop-list.done.items c.args.lists.now c.loop-list.list-index (normal_patterns c.args.vars.now c.args.defs.now c.args.bound.now (patterns_of (lists_at c.args.terms.now c.args.lists.now))) c.loop-list-test.false c.loop-list.invariant.made

pub listed::normal_parts-returns-clause-gives : goal.listed::normal_parts-returns-clause-gives
listed::normal_parts-returns-clause-gives t c = let us = c.normal_lists.new.terms in let vs = c.normal_under.new.terms in let ls = c.in_ok-lists.lists.items in
    let stay = lists_stay us vs c.normal_under.ensures.grows ls c.in_ok-lists.ensures.within in
    let body = ap (normal c.args.vars.now c.args.defs.now c.args.bound.now) (sym (begins_at c.args.terms.now us c.args.body c.normal_lists.ensures.grows (omega (arith, c.requires.body, c.requires.below)))) ∙ c.in_ok-body.ensures.gives.1 in
    pair_made (normal_patterns c.args.vars.now c.args.defs.now c.args.bound.now (patterns_of (lists_at c.args.terms.now c.args.lists.now))) (normal c.args.vars.now c.args.defs.now c.args.bound.now (at c.args.terms.now c.args.body)) (patterns_of (lists_at vs ls)) (at vs c.in_ok-body.body) (c.in_ok-lists.ensures.gives ∙ ap (λ xs. Some (patterns_of xs)) (sym stay)) body

pub listed::normal_parts-returns-clause-lists : goal.listed::normal_parts-returns-clause-lists
listed::normal_parts-returns-clause-lists t c = numbers_stay c.normal_lists.new.terms c.normal_under.new.terms c.normal_under.ensures.grows (in_lists c.in_ok-lists.lists.items) c.in_ok-lists.ensures.within

pub normal::normal_closed-returns-in-Some-clause-gives : goal.normal::normal_closed-returns-in-Some-clause-gives
normal::normal_closed-returns-in-Some-clause-gives t c = let r = c.requires.forms c.args.id c.in-Some.form (sym c.form_of.ensures ∙ c.in-Some.is) in (r.1.0, ap (λ b. normal c.args.vars.now c.args.defs.now b (at c.args.terms.now c.args.id)) c.requires.bound ∙ r.1.1)

pub normal::normal_closed-returns-in_err-put-clause-forms : goal.normal::normal_closed-returns-in_err-put-clause-forms
normal::normal_closed-returns-in_err-put-clause-forms t c = let us = c.normal_node.new.terms in
    kept_alike (λ i j. (i < length us) × ((j < length us) × (normal c.args.vars.now c.args.defs.now [] (at us i) ≡ Some (at us j)))) c.normal_node.new.forms.slots.items c.put.new.self.slots.items c.in_err-put.ensures.memory c.in_ok-form.ensures.forms

pub normal::normal_closed-returns-clause-forms : goal.normal::normal_closed-returns-clause-forms
normal::normal_closed-returns-clause-forms t c = let us = c.normal_node.new.terms in let b = c.in_ok-form.ensures.grows in let g = c.in_ok-form.ensures.gives in
    let e = (λ k. normal c.args.vars.now c.args.defs.now (sym c.requires.bound k) (begins_at c.args.terms.now us c.args.id b c.requires.id k)) ∙ g.1 in
    kept_more (λ i j. (i < length us) × ((j < length us) × (normal c.args.vars.now c.args.defs.now [] (at us i) ≡ Some (at us j)))) c.normal_node.new.forms.slots.items c.put.new.self.slots.items c.args.id c.in_ok-form.form c.in_ok-put.ensures.ok c.in_ok-form.ensures.forms (still_below c.args.terms.now us c.args.id b c.requires.id, (g.0, e))

pub normal::normal_node-normal_for_all-requires : goal.normal::normal_node-normal_for_all-requires
normal::normal_node-normal_for_all-requires t c =
    let whole = subst (λ m. AllByRecursion (λ j. j < c.args.id) (numbers_in m)) c.in-ForAll.is c.node.ensures.lower in
    let same = c.in_ok-lists-in-ForAll.ensures ∙ ap (map (λ (w : Vec ℕ Global). w.items)) c.deref-in-ForAll-2.ensures.value in
    let low = copies_all c.in-ForAll.lists.items c.in_ok-lists-in-ForAll.lists.items same (λ j. j < c.args.id) whole.1 in (
      omega (arith, c.decreases, c.id.view_is),
      (
        omega (arith, c.requires.id, c.id.view_is),
        (rw (c.deref-in-ForAll-3.ensures.value, c.id.view_is) low, (omega (arith, whole.0, c.id.view_is), c.requires.forms)),
      ),
    )

pub normal::normal_node-returns-in_ok-lists-in-ForAll-clause-gives : goal.normal::normal_node-returns-in_ok-lists-in-ForAll-clause-gives
normal::normal_node-returns-in_ok-lists-in-ForAll-clause-gives t c =
    let ts = c.args.terms.now in
    let same = c.in_ok-lists-in-ForAll.ensures ∙ ap (map (λ (w : Vec ℕ Global). w.items)) c.deref-in-ForAll-2.ensures.value in
    let lists = ap (lists_at ts) c.deref-in-ForAll-3.ensures.value ∙ copies_same c.in-ForAll.lists.items c.in_ok-lists-in-ForAll.lists.items same ts in
    let sorts = c.in_ok-sorts-in-ForAll.ensures ∙ c.deref-in-ForAll.ensures.value in
    let shape : at ts c.args.id ≡ for_all c.in-ForAll.sorts.items (patterns_of (lists_at ts c.in-ForAll.lists.items)) (at ts c.in-ForAll.body) = sym c.node.ensures.node ∙ ap (tree_over (at ts)) c.in-ForAll.is in
    subst (λ u. GivesAt c.normal_for_all.new.terms c.normal_for_all.result (normal c.args.vars.now c.args.defs.now c.args.bound.now u)) ((λ k. for_all (sorts k) (patterns_of (lists k)) (at ts c.in-ForAll.body)) ∙ sym shape) c.normal_for_all.ensures.gives

pub normal::normal_node-normal_exists-requires : goal.normal::normal_node-normal_exists-requires
normal::normal_node-normal_exists-requires t c =
    let whole = subst (λ m. AllByRecursion (λ j. j < c.args.id) (numbers_in m)) c.in-Exists.is c.node.ensures.lower in
    let same = c.in_ok-lists-in-Exists.ensures ∙ ap (map (λ (w : Vec ℕ Global). w.items)) c.deref-in-Exists-2.ensures.value in
    let low = copies_all c.in-Exists.lists.items c.in_ok-lists-in-Exists.lists.items same (λ j. j < c.args.id) whole.1 in (
      omega (arith, c.decreases, c.id.view_is),
      (
        omega (arith, c.requires.id, c.id.view_is),
        (rw (c.deref-in-Exists-3.ensures.value, c.id.view_is) low, (omega (arith, whole.0, c.id.view_is), c.requires.forms)),
      ),
    )

pub normal::normal_node-returns-in_ok-lists-in-Exists-clause-gives : goal.normal::normal_node-returns-in_ok-lists-in-Exists-clause-gives
normal::normal_node-returns-in_ok-lists-in-Exists-clause-gives t c =
    let ts = c.args.terms.now in
    let same = c.in_ok-lists-in-Exists.ensures ∙ ap (map (λ (w : Vec ℕ Global). w.items)) c.deref-in-Exists-2.ensures.value in
    let lists = ap (lists_at ts) c.deref-in-Exists-3.ensures.value ∙ copies_same c.in-Exists.lists.items c.in_ok-lists-in-Exists.lists.items same ts in
    let sorts = c.in_ok-sorts-in-Exists.ensures ∙ c.deref-in-Exists.ensures.value in
    let shape : at ts c.args.id ≡ exists c.in-Exists.sorts.items (patterns_of (lists_at ts c.in-Exists.lists.items)) (at ts c.in-Exists.body) = sym c.node.ensures.node ∙ ap (tree_over (at ts)) c.in-Exists.is in
    subst (λ u. GivesAt c.normal_exists.new.terms c.normal_exists.result (normal c.args.vars.now c.args.defs.now c.args.bound.now u)) ((λ k. exists (sorts k) (patterns_of (lists k)) (at ts c.in-Exists.body)) ∙ sym shape) c.normal_exists.ensures.gives

pub normal::normal_node-returns-in_ok-parts-in-Sum-clause-gives : goal.normal::normal_node-returns-in_ok-parts-in-Sum-clause-gives
normal::normal_node-returns-in_ok-parts-in-Sum-clause-gives t c =
    let ts = c.args.terms.now in
    let fits : FitsSigned w128 c.in-Sum.c = search rules in
    let shape : at ts c.args.id ≡ linear (parts_of (atoms_at ts c.in-Sum.parts.items)) c.in-Sum.c = sym c.node.ensures.node ∙ ap (tree_over (at ts)) c.in-Sum.is in
    rw shape (rw (c.deref-in-Sum.ensures.value, c.in_ok-parts-in-Sum.ensures, c.deref.ensures.value, to_z-of_z w128 c.in-Sum.c fits) at c.normal_sum.ensures.gives)

pub constructs::normal_call-returns-in_err-make-clause-grows : goal.constructs::normal_call-returns-in_err-make-clause-grows
constructs::normal_call-returns-in_err-make-clause-grows t c = begins_then c.args.terms.now c.normal_each.new.terms c.make.new.self c.normal_each.ensures.grows c.make.ensures.grows

pub constructs::normal_call-returns-clause-grows : goal.constructs::normal_call-returns-clause-grows
constructs::normal_call-returns-clause-grows t c = begins_then c.args.terms.now c.normal_each.new.terms c.make.new.self c.normal_each.ensures.grows c.make.ensures.grows

pub constructs::normal_choice-returns-in_err-choice-clause-grows : goal.constructs::normal_choice-returns-in_err-choice-clause-grows
constructs::normal_choice-returns-in_err-choice-clause-grows t c = begins_then c.args.terms.now c.normal_three.new.terms c.choice.new.terms c.normal_three.ensures.grows c.choice.ensures.grows

pub constructs::normal_choice-returns-clause-grows : goal.constructs::normal_choice-returns-clause-grows
constructs::normal_choice-returns-clause-grows t c = begins_then c.args.terms.now c.normal_three.new.terms c.choice.new.terms c.normal_three.ensures.grows c.choice.ensures.grows

pub constructs::normal_conjunction-returns-in_err-junction-clause-grows : goal.constructs::normal_conjunction-returns-in_err-junction-clause-grows
constructs::normal_conjunction-returns-in_err-junction-clause-grows t c = begins_then c.args.terms.now c.normal_each.new.terms c.junction.new.terms c.normal_each.ensures.grows c.junction.ensures.grows

pub constructs::normal_conjunction-returns-clause-grows : goal.constructs::normal_conjunction-returns-clause-grows
constructs::normal_conjunction-returns-clause-grows t c = begins_then c.args.terms.now c.normal_each.new.terms c.junction.new.terms c.normal_each.ensures.grows c.junction.ensures.grows

pub constructs::normal_disjunction-returns-in_err-junction-clause-grows : goal.constructs::normal_disjunction-returns-in_err-junction-clause-grows
constructs::normal_disjunction-returns-in_err-junction-clause-grows t c = begins_then c.args.terms.now c.normal_each.new.terms c.junction.new.terms c.normal_each.ensures.grows c.junction.ensures.grows

pub constructs::normal_disjunction-returns-clause-grows : goal.constructs::normal_disjunction-returns-clause-grows
constructs::normal_disjunction-returns-clause-grows t c = begins_then c.args.terms.now c.normal_each.new.terms c.junction.new.terms c.normal_each.ensures.grows c.junction.ensures.grows

pub constructs::normal_equation-returns-clause-grows : goal.constructs::normal_equation-returns-clause-grows
constructs::normal_equation-returns-clause-grows t c = begins_then c.args.terms.now c.normal_two.new.terms c.equation.new.terms c.normal_two.ensures.grows c.equation.ensures.grows

pub constructs::normal_exists-returns-in_err-exists-clause-grows : goal.constructs::normal_exists-returns-in_err-exists-clause-grows
constructs::normal_exists-returns-in_err-exists-clause-grows t c = begins_then c.args.terms.now c.normal_parts.new.terms c.exists.new.terms c.normal_parts.ensures.grows c.exists.ensures.grows

pub constructs::normal_exists-returns-clause-grows : goal.constructs::normal_exists-returns-clause-grows
constructs::normal_exists-returns-clause-grows t c = begins_then c.args.terms.now c.normal_parts.new.terms c.exists.new.terms c.normal_parts.ensures.grows c.exists.ensures.grows

pub constructs::normal_for_all-returns-in_err-for_all-clause-grows : goal.constructs::normal_for_all-returns-in_err-for_all-clause-grows
constructs::normal_for_all-returns-in_err-for_all-clause-grows t c = begins_then c.args.terms.now c.normal_parts.new.terms c.for_all.new.terms c.normal_parts.ensures.grows c.for_all.ensures.grows

pub constructs::normal_for_all-returns-clause-grows : goal.constructs::normal_for_all-returns-clause-grows
constructs::normal_for_all-returns-clause-grows t c = begins_then c.args.terms.now c.normal_parts.new.terms c.for_all.new.terms c.normal_parts.ensures.grows c.for_all.ensures.grows

pub constructs::normal_inequality-returns-clause-grows : goal.constructs::normal_inequality-returns-clause-grows
constructs::normal_inequality-returns-clause-grows t c = begins_then c.args.terms.now c.normal_two.new.terms c.inequality.new.terms c.normal_two.ensures.grows c.inequality.ensures.grows

pub constructs::normal_negation-returns-clause-grows : goal.constructs::normal_negation-returns-clause-grows
constructs::normal_negation-returns-clause-grows t c = begins_then c.args.terms.now c.normal_under.new.terms c.negated.new.terms c.normal_under.ensures.grows c.negated.ensures.grows

pub constructs::normal_product-returns-clause-grows : goal.constructs::normal_product-returns-clause-grows
constructs::normal_product-returns-clause-grows t c = begins_then c.args.terms.now c.normal_two.new.terms c.product.new.terms c.normal_two.ensures.grows c.product.ensures.grows

pub constructs::normal_read-returns-in_err-make-clause-grows : goal.constructs::normal_read-returns-in_err-make-clause-grows
constructs::normal_read-returns-in_err-make-clause-grows t c = begins_then c.args.terms.now c.normal_two.new.terms c.make.new.self c.normal_two.ensures.grows c.make.ensures.grows

pub constructs::normal_read-returns-clause-grows : goal.constructs::normal_read-returns-clause-grows
constructs::normal_read-returns-clause-grows t c = begins_then c.args.terms.now c.normal_two.new.terms c.make.new.self c.normal_two.ensures.grows c.make.ensures.grows

pub constructs::normal_write-returns-in_err-make-clause-grows : goal.constructs::normal_write-returns-in_err-make-clause-grows
constructs::normal_write-returns-in_err-make-clause-grows t c = begins_then c.args.terms.now c.normal_three.new.terms c.make.new.self c.normal_three.ensures.grows c.make.ensures.grows

pub constructs::normal_write-returns-clause-grows : goal.constructs::normal_write-returns-clause-grows
constructs::normal_write-returns-clause-grows t c = begins_then c.args.terms.now c.normal_three.new.terms c.make.new.self c.normal_three.ensures.grows c.make.ensures.grows

pub listed::normal_sum-returns-in_err-make-clause-grows : goal.listed::normal_sum-returns-in_err-make-clause-grows
listed::normal_sum-returns-in_err-make-clause-grows t c = begins_then c.args.terms.now c.normal_atoms.new.terms c.make.new.terms c.normal_atoms.ensures.grows c.make.ensures.grows

pub constructs::normal_product-normal_two-requires : goal.constructs::normal_product-normal_two-requires
constructs::normal_product-normal_two-requires t c = (omega (arith, c.decreases), (c.requires.below, (c.requires.a, (c.requires.b, c.requires.forms))))

pub constructs::normal_product-returns-in_err-a-clause-grows : goal.constructs::normal_product-returns-in_err-a-clause-grows
constructs::normal_product-returns-in_err-a-clause-grows t c = c.normal_two.ensures.grows

pub constructs::normal_product-returns-in_err-a-clause-forms : goal.constructs::normal_product-returns-in_err-a-clause-forms
constructs::normal_product-returns-in_err-a-clause-forms t c = c.normal_two.ensures.forms

pub constructs::normal_product-returns-in_err-a-clause-gives : goal.constructs::normal_product-returns-in_err-a-clause-gives
constructs::normal_product-returns-in_err-a-clause-gives t c = two_refused c.normal_two.new.terms (normal c.args.vars.now c.args.defs.now c.args.bound.now (at c.args.terms.now c.args.a)) (normal c.args.vars.now c.args.defs.now c.args.bound.now (at c.args.terms.now c.args.b)) c.from_residual.result c.in_err-a.field-0.0 product c.from_residual.ensures.1 c.in_err-a.ensures.gives

pub constructs::normal_product-product-requires-clause-a : goal.constructs::normal_product-product-requires-clause-a
constructs::normal_product-product-requires-clause-a t c = c.in_ok-a.ensures.first

pub constructs::normal_product-product-requires-clause-b : goal.constructs::normal_product-product-requires-clause-b
constructs::normal_product-product-requires-clause-b t c = c.in_ok-a.ensures.second

pub constructs::normal_product-returns-clause-gives : goal.constructs::normal_product-returns-clause-gives
constructs::normal_product-returns-clause-gives t c = two_given c.product.new.terms (normal c.args.vars.now c.args.defs.now c.args.bound.now (at c.args.terms.now c.args.a)) (normal c.args.vars.now c.args.defs.now c.args.bound.now (at c.args.terms.now c.args.b)) c.product.result (at c.normal_two.new.terms c.in_ok-a.a) (at c.normal_two.new.terms c.in_ok-a.b) product c.in_ok-a.ensures.gives c.product.ensures.gives

pub constructs::normal_read-normal_two-requires : goal.constructs::normal_read-normal_two-requires
constructs::normal_read-normal_two-requires t c = (omega (arith, c.decreases), (c.requires.below, (c.requires.map, (c.requires.index, c.requires.forms))))

pub constructs::normal_read-returns-in_err-map-clause-grows : goal.constructs::normal_read-returns-in_err-map-clause-grows
constructs::normal_read-returns-in_err-map-clause-grows t c = c.normal_two.ensures.grows

pub constructs::normal_read-returns-in_err-map-clause-forms : goal.constructs::normal_read-returns-in_err-map-clause-forms
constructs::normal_read-returns-in_err-map-clause-forms t c = c.normal_two.ensures.forms

pub constructs::normal_read-returns-in_err-map-clause-gives : goal.constructs::normal_read-returns-in_err-map-clause-gives
constructs::normal_read-returns-in_err-map-clause-gives t c = two_refused c.normal_two.new.terms (normal c.args.vars.now c.args.defs.now c.args.bound.now (at c.args.terms.now c.args.map)) (normal c.args.vars.now c.args.defs.now c.args.bound.now (at c.args.terms.now c.args.index)) c.from_residual.result c.in_err-map.field-0.0 (λ u v. Some (read u v)) c.from_residual.ensures.1 c.in_err-map.ensures.gives

pub constructs::normal_read-make-requires : goal.constructs::normal_read-make-requires
constructs::normal_read-make-requires t c = (c.in_ok-map.ensures.first, (c.in_ok-map.ensures.second, tt))

pub constructs::normal_read-returns-clause-gives : goal.constructs::normal_read-returns-clause-gives
constructs::normal_read-returns-clause-gives t c = two_made c.make.new.self (normal c.args.vars.now c.args.defs.now c.args.bound.now (at c.args.terms.now c.args.map)) (normal c.args.vars.now c.args.defs.now c.args.bound.now (at c.args.terms.now c.args.index)) c.in_ok-make.field-0 (at c.normal_two.new.terms c.in_ok-map.map) (at c.normal_two.new.terms c.in_ok-map.index) read c.in_ok-map.ensures.gives c.in_ok-make.ensures.number

pub constructs::normal_inequality-normal_two-requires : goal.constructs::normal_inequality-normal_two-requires
constructs::normal_inequality-normal_two-requires t c = (omega (arith, c.decreases), (c.requires.below, (c.requires.a, (c.requires.b, c.requires.forms))))

pub constructs::normal_inequality-returns-in_err-a-clause-grows : goal.constructs::normal_inequality-returns-in_err-a-clause-grows
constructs::normal_inequality-returns-in_err-a-clause-grows t c = c.normal_two.ensures.grows

pub constructs::normal_inequality-returns-in_err-a-clause-forms : goal.constructs::normal_inequality-returns-in_err-a-clause-forms
constructs::normal_inequality-returns-in_err-a-clause-forms t c = c.normal_two.ensures.forms

pub constructs::normal_inequality-returns-in_err-a-clause-gives : goal.constructs::normal_inequality-returns-in_err-a-clause-gives
constructs::normal_inequality-returns-in_err-a-clause-gives t c = two_refused c.normal_two.new.terms (normal c.args.vars.now c.args.defs.now c.args.bound.now (at c.args.terms.now c.args.a)) (normal c.args.vars.now c.args.defs.now c.args.bound.now (at c.args.terms.now c.args.b)) c.from_residual.result c.in_err-a.field-0.0 inequality c.from_residual.ensures.1 c.in_err-a.ensures.gives

pub constructs::normal_inequality-inequality-requires-clause-a : goal.constructs::normal_inequality-inequality-requires-clause-a
constructs::normal_inequality-inequality-requires-clause-a t c = c.in_ok-a.ensures.first

pub constructs::normal_inequality-inequality-requires-clause-b : goal.constructs::normal_inequality-inequality-requires-clause-b
constructs::normal_inequality-inequality-requires-clause-b t c = c.in_ok-a.ensures.second

pub constructs::normal_inequality-returns-clause-gives : goal.constructs::normal_inequality-returns-clause-gives
constructs::normal_inequality-returns-clause-gives t c = two_given c.inequality.new.terms (normal c.args.vars.now c.args.defs.now c.args.bound.now (at c.args.terms.now c.args.a)) (normal c.args.vars.now c.args.defs.now c.args.bound.now (at c.args.terms.now c.args.b)) c.inequality.result (at c.normal_two.new.terms c.in_ok-a.a) (at c.normal_two.new.terms c.in_ok-a.b) inequality c.in_ok-a.ensures.gives c.inequality.ensures.gives

pub constructs::normal_equation-normal_two-requires : goal.constructs::normal_equation-normal_two-requires
constructs::normal_equation-normal_two-requires t c = (omega (arith, c.decreases), (c.requires.below, (c.requires.a, (c.requires.b, c.requires.forms))))

pub constructs::normal_equation-returns-in_err-a-clause-grows : goal.constructs::normal_equation-returns-in_err-a-clause-grows
constructs::normal_equation-returns-in_err-a-clause-grows t c = c.normal_two.ensures.grows

pub constructs::normal_equation-returns-in_err-a-clause-forms : goal.constructs::normal_equation-returns-in_err-a-clause-forms
constructs::normal_equation-returns-in_err-a-clause-forms t c = c.normal_two.ensures.forms

pub constructs::normal_equation-returns-in_err-a-clause-gives : goal.constructs::normal_equation-returns-in_err-a-clause-gives
constructs::normal_equation-returns-in_err-a-clause-gives t c = two_refused c.normal_two.new.terms (normal c.args.vars.now c.args.defs.now c.args.bound.now (at c.args.terms.now c.args.a)) (normal c.args.vars.now c.args.defs.now c.args.bound.now (at c.args.terms.now c.args.b)) c.from_residual-in_err-a.result c.in_err-a.field-0.0 (λ u v. equation (sort_of c.args.vars.now c.args.defs.now c.args.bound.now (at c.args.terms.now c.args.a)) u v) c.from_residual-in_err-a.ensures.1 c.in_err-a.ensures.gives

pub constructs::normal_equation-equation-requires-clause-a : goal.constructs::normal_equation-equation-requires-clause-a
constructs::normal_equation-equation-requires-clause-a t c = c.in_ok-a.ensures.first

pub constructs::normal_equation-equation-requires-clause-b : goal.constructs::normal_equation-equation-requires-clause-b
constructs::normal_equation-equation-requires-clause-b t c = c.in_ok-a.ensures.second

pub constructs::normal_equation-returns-clause-gives : goal.constructs::normal_equation-returns-clause-gives
constructs::normal_equation-returns-clause-gives t c = two_given c.equation.new.terms (normal c.args.vars.now c.args.defs.now c.args.bound.now (at c.args.terms.now c.args.a)) (normal c.args.vars.now c.args.defs.now c.args.bound.now (at c.args.terms.now c.args.b)) c.equation.result (at c.normal_two.new.terms c.in_ok-a.a) (at c.normal_two.new.terms c.in_ok-a.b) (λ u v. equation (sort_of c.args.vars.now c.args.defs.now c.args.bound.now (at c.args.terms.now c.args.a)) u v) c.in_ok-a.ensures.gives (subst (λ k. GivesAt c.equation.new.terms c.equation.result (equation k (at c.normal_two.new.terms c.in_ok-a.a) (at c.normal_two.new.terms c.in_ok-a.b))) c.in_ok-sort.ensures c.equation.ensures.gives)

pub constructs::normal_write-normal_three-requires : goal.constructs::normal_write-normal_three-requires
constructs::normal_write-normal_three-requires t c = (omega (arith, c.decreases), (c.requires.below, (c.requires.map, (c.requires.index, (c.requires.value, c.requires.forms)))))

pub constructs::normal_write-returns-in_err-map-clause-grows : goal.constructs::normal_write-returns-in_err-map-clause-grows
constructs::normal_write-returns-in_err-map-clause-grows t c = c.normal_three.ensures.grows

pub constructs::normal_write-returns-in_err-map-clause-forms : goal.constructs::normal_write-returns-in_err-map-clause-forms
constructs::normal_write-returns-in_err-map-clause-forms t c = c.normal_three.ensures.forms

pub constructs::normal_write-returns-in_err-map-clause-gives : goal.constructs::normal_write-returns-in_err-map-clause-gives
constructs::normal_write-returns-in_err-map-clause-gives t c = three_refused c.normal_three.new.terms (normal c.args.vars.now c.args.defs.now c.args.bound.now (at c.args.terms.now c.args.map)) (normal c.args.vars.now c.args.defs.now c.args.bound.now (at c.args.terms.now c.args.index)) (normal c.args.vars.now c.args.defs.now c.args.bound.now (at c.args.terms.now c.args.value)) c.from_residual.result c.in_err-map.field-0.0 write c.from_residual.ensures.1 c.in_err-map.ensures.gives

pub constructs::normal_write-make-requires : goal.constructs::normal_write-make-requires
constructs::normal_write-make-requires t c = (c.in_ok-map.ensures.first, (c.in_ok-map.ensures.second, (c.in_ok-map.ensures.third, tt)))

pub constructs::normal_write-returns-clause-gives : goal.constructs::normal_write-returns-clause-gives
constructs::normal_write-returns-clause-gives t c = three_made c.make.new.self (normal c.args.vars.now c.args.defs.now c.args.bound.now (at c.args.terms.now c.args.map)) (normal c.args.vars.now c.args.defs.now c.args.bound.now (at c.args.terms.now c.args.index)) (normal c.args.vars.now c.args.defs.now c.args.bound.now (at c.args.terms.now c.args.value)) c.in_ok-make.field-0 (at c.normal_three.new.terms c.in_ok-map.map) (at c.normal_three.new.terms c.in_ok-map.index) (at c.normal_three.new.terms c.in_ok-map.value) write c.in_ok-map.ensures.gives c.in_ok-make.ensures.number

pub constructs::normal_choice-normal_three-requires : goal.constructs::normal_choice-normal_three-requires
constructs::normal_choice-normal_three-requires t c = (omega (arith, c.decreases), (c.requires.below, (c.requires.c, (c.requires.a, (c.requires.b, c.requires.forms)))))

pub constructs::normal_choice-returns-in_err-c-clause-grows : goal.constructs::normal_choice-returns-in_err-c-clause-grows
constructs::normal_choice-returns-in_err-c-clause-grows t c = c.normal_three.ensures.grows

pub constructs::normal_choice-returns-in_err-c-clause-forms : goal.constructs::normal_choice-returns-in_err-c-clause-forms
constructs::normal_choice-returns-in_err-c-clause-forms t c = c.normal_three.ensures.forms

pub constructs::normal_choice-returns-in_err-c-clause-gives : goal.constructs::normal_choice-returns-in_err-c-clause-gives
constructs::normal_choice-returns-in_err-c-clause-gives t c = three_refused c.normal_three.new.terms (normal c.args.vars.now c.args.defs.now c.args.bound.now (at c.args.terms.now c.args.c)) (normal c.args.vars.now c.args.defs.now c.args.bound.now (at c.args.terms.now c.args.a)) (normal c.args.vars.now c.args.defs.now c.args.bound.now (at c.args.terms.now c.args.b)) c.from_residual.result c.in_err-c.field-0.0 choice c.from_residual.ensures.1 c.in_err-c.ensures.gives

pub constructs::normal_choice-choice-requires-clause-c : goal.constructs::normal_choice-choice-requires-clause-c
constructs::normal_choice-choice-requires-clause-c t c = c.in_ok-c.ensures.first

pub constructs::normal_choice-choice-requires-clause-a : goal.constructs::normal_choice-choice-requires-clause-a
constructs::normal_choice-choice-requires-clause-a t c = c.in_ok-c.ensures.second

pub constructs::normal_choice-choice-requires-clause-b : goal.constructs::normal_choice-choice-requires-clause-b
constructs::normal_choice-choice-requires-clause-b t c = c.in_ok-c.ensures.third

pub constructs::normal_choice-returns-clause-gives : goal.constructs::normal_choice-returns-clause-gives
constructs::normal_choice-returns-clause-gives t c = three_made c.choice.new.terms (normal c.args.vars.now c.args.defs.now c.args.bound.now (at c.args.terms.now c.args.c)) (normal c.args.vars.now c.args.defs.now c.args.bound.now (at c.args.terms.now c.args.a)) (normal c.args.vars.now c.args.defs.now c.args.bound.now (at c.args.terms.now c.args.b)) c.in_ok-choice.field-0 (at c.normal_three.new.terms c.in_ok-c.c) (at c.normal_three.new.terms c.in_ok-c.a) (at c.normal_three.new.terms c.in_ok-c.b) choice c.in_ok-c.ensures.gives c.in_ok-choice.ensures.gives

pub constructs::normal_call-normal_each-requires : goal.constructs::normal_call-normal_each-requires
constructs::normal_call-normal_each-requires t c = (omega (arith, c.decreases), (c.requires.below, (c.requires.ids, c.requires.forms)))

pub constructs::normal_call-returns-in_err-args-clause-grows : goal.constructs::normal_call-returns-in_err-args-clause-grows
constructs::normal_call-returns-in_err-args-clause-grows t c = c.normal_each.ensures.grows

pub constructs::normal_call-returns-in_err-args-clause-forms : goal.constructs::normal_call-returns-in_err-args-clause-forms
constructs::normal_call-returns-in_err-args-clause-forms t c = c.normal_each.ensures.forms

pub constructs::normal_call-returns-in_err-args-clause-gives : goal.constructs::normal_call-returns-in_err-args-clause-gives
constructs::normal_call-returns-in_err-args-clause-gives t c = one_unmade c.normal_each.new.terms (normal_each c.args.vars.now c.args.defs.now c.args.bound.now (trees_of (terms_at c.args.terms.now c.args.ids.now))) c.from_residual.result c.in_err-args.field-0.0 (λ us. call c.args.f us) c.from_residual.ensures.1 c.in_err-args.ensures.gives

pub constructs::normal_call-make-requires : goal.constructs::normal_call-make-requires
constructs::normal_call-make-requires t c = c.in_ok-args.ensures.within

pub constructs::normal_call-returns-clause-gives : goal.constructs::normal_call-returns-clause-gives
constructs::normal_call-returns-clause-gives t c = one_made c.make.new.self (normal_each c.args.vars.now c.args.defs.now c.args.bound.now (trees_of (terms_at c.args.terms.now c.args.ids.now))) c.in_ok-make.field-0 (trees_of (terms_at c.normal_each.new.terms c.in_ok-args.args.items)) (λ us. call c.args.f us) c.in_ok-args.ensures.gives c.in_ok-make.ensures.number

pub constructs::normal_conjunction-normal_each-requires : goal.constructs::normal_conjunction-normal_each-requires
constructs::normal_conjunction-normal_each-requires t c = (omega (arith, c.decreases), (c.requires.below, (c.requires.ids, c.requires.forms)))

pub constructs::normal_conjunction-returns-in_err-parts-clause-grows : goal.constructs::normal_conjunction-returns-in_err-parts-clause-grows
constructs::normal_conjunction-returns-in_err-parts-clause-grows t c = c.normal_each.ensures.grows

pub constructs::normal_conjunction-returns-in_err-parts-clause-forms : goal.constructs::normal_conjunction-returns-in_err-parts-clause-forms
constructs::normal_conjunction-returns-in_err-parts-clause-forms t c = c.normal_each.ensures.forms

pub constructs::normal_conjunction-returns-in_err-parts-clause-gives : goal.constructs::normal_conjunction-returns-in_err-parts-clause-gives
constructs::normal_conjunction-returns-in_err-parts-clause-gives t c = one_unmade c.normal_each.new.terms (normal_each c.args.vars.now c.args.defs.now c.args.bound.now (trees_of (terms_at c.args.terms.now c.args.ids.now))) c.from_residual.result c.in_err-parts.field-0.0 conjunction c.from_residual.ensures.1 c.in_err-parts.ensures.gives

pub constructs::normal_conjunction-junction-requires : goal.constructs::normal_conjunction-junction-requires
constructs::normal_conjunction-junction-requires t c = subst (AllByRecursion (λ j. j < length c.normal_each.new.terms)) (sym c.deref.ensures.value) c.in_ok-parts.ensures.within

pub constructs::normal_conjunction-returns-clause-gives : goal.constructs::normal_conjunction-returns-clause-gives
constructs::normal_conjunction-returns-clause-gives t c = one_made c.junction.new.terms (normal_each c.args.vars.now c.args.defs.now c.args.bound.now (trees_of (terms_at c.args.terms.now c.args.ids.now))) c.in_ok-junction.field-0 (trees_of (terms_at c.normal_each.new.terms c.in_ok-parts.parts.items)) conjunction c.in_ok-parts.ensures.gives (subst (λ is. IsAt c.junction.new.terms c.in_ok-junction.field-0 (conjunction (trees_of (terms_at c.normal_each.new.terms is)))) c.deref.ensures.value c.in_ok-junction.ensures.gives)

pub constructs::normal_disjunction-normal_each-requires : goal.constructs::normal_disjunction-normal_each-requires
constructs::normal_disjunction-normal_each-requires t c = (omega (arith, c.decreases), (c.requires.below, (c.requires.ids, c.requires.forms)))

pub constructs::normal_disjunction-returns-in_err-parts-clause-grows : goal.constructs::normal_disjunction-returns-in_err-parts-clause-grows
constructs::normal_disjunction-returns-in_err-parts-clause-grows t c = c.normal_each.ensures.grows

pub constructs::normal_disjunction-returns-in_err-parts-clause-forms : goal.constructs::normal_disjunction-returns-in_err-parts-clause-forms
constructs::normal_disjunction-returns-in_err-parts-clause-forms t c = c.normal_each.ensures.forms

pub constructs::normal_disjunction-returns-in_err-parts-clause-gives : goal.constructs::normal_disjunction-returns-in_err-parts-clause-gives
constructs::normal_disjunction-returns-in_err-parts-clause-gives t c = one_unmade c.normal_each.new.terms (normal_each c.args.vars.now c.args.defs.now c.args.bound.now (trees_of (terms_at c.args.terms.now c.args.ids.now))) c.from_residual.result c.in_err-parts.field-0.0 disjunction c.from_residual.ensures.1 c.in_err-parts.ensures.gives

pub constructs::normal_disjunction-junction-requires : goal.constructs::normal_disjunction-junction-requires
constructs::normal_disjunction-junction-requires t c = subst (AllByRecursion (λ j. j < length c.normal_each.new.terms)) (sym c.deref.ensures.value) c.in_ok-parts.ensures.within

pub constructs::normal_disjunction-returns-clause-gives : goal.constructs::normal_disjunction-returns-clause-gives
constructs::normal_disjunction-returns-clause-gives t c = one_made c.junction.new.terms (normal_each c.args.vars.now c.args.defs.now c.args.bound.now (trees_of (terms_at c.args.terms.now c.args.ids.now))) c.in_ok-junction.field-0 (trees_of (terms_at c.normal_each.new.terms c.in_ok-parts.parts.items)) disjunction c.in_ok-parts.ensures.gives (subst (λ is. IsAt c.junction.new.terms c.in_ok-junction.field-0 (disjunction (trees_of (terms_at c.normal_each.new.terms is)))) c.deref.ensures.value c.in_ok-junction.ensures.gives)

pub constructs::normal_negation-normal_under-requires : goal.constructs::normal_negation-normal_under-requires
constructs::normal_negation-normal_under-requires t c = (omega (arith, c.decreases, c.requires.a), (omega (arith, c.requires.a, c.requires.below), c.requires.forms))

pub constructs::normal_negation-returns-in_err-a-clause-grows : goal.constructs::normal_negation-returns-in_err-a-clause-grows
constructs::normal_negation-returns-in_err-a-clause-grows t c = c.normal_under.ensures.grows

pub constructs::normal_negation-returns-in_err-a-clause-forms : goal.constructs::normal_negation-returns-in_err-a-clause-forms
constructs::normal_negation-returns-in_err-a-clause-forms t c = c.normal_under.ensures.forms

pub constructs::normal_negation-returns-in_err-a-clause-gives : goal.constructs::normal_negation-returns-in_err-a-clause-gives
constructs::normal_negation-returns-in_err-a-clause-gives t c = one_refused c.normal_under.new.terms (normal c.args.vars.now c.args.defs.now c.args.bound.now (at c.args.terms.now c.args.a)) c.from_residual.result c.in_err-a.field-0.0 negated c.from_residual.ensures.1 c.in_err-a.ensures.gives

pub constructs::normal_negation-negated-requires : goal.constructs::normal_negation-negated-requires
constructs::normal_negation-negated-requires t c = c.in_ok-a.ensures.gives.0

pub constructs::normal_negation-returns-clause-gives : goal.constructs::normal_negation-returns-clause-gives
constructs::normal_negation-returns-clause-gives t c = one_given c.negated.new.terms (normal c.args.vars.now c.args.defs.now c.args.bound.now (at c.args.terms.now c.args.a)) c.negated.result (at c.normal_under.new.terms c.in_ok-a.a) negated c.in_ok-a.ensures.gives.1 c.negated.ensures.gives

pub constructs::normal_for_all-normal_parts-requires : goal.constructs::normal_for_all-normal_parts-requires
constructs::normal_for_all-normal_parts-requires t c = (omega (arith, c.decreases), (c.requires.below, (c.requires.lists, (c.requires.body, c.requires.forms))))

pub constructs::normal_for_all-returns-in_err-lists-clause-grows : goal.constructs::normal_for_all-returns-in_err-lists-clause-grows
constructs::normal_for_all-returns-in_err-lists-clause-grows t c = c.normal_parts.ensures.grows

pub constructs::normal_for_all-returns-in_err-lists-clause-forms : goal.constructs::normal_for_all-returns-in_err-lists-clause-forms
constructs::normal_for_all-returns-in_err-lists-clause-forms t c = c.normal_parts.ensures.forms

pub constructs::normal_for_all-returns-in_err-lists-clause-gives : goal.constructs::normal_for_all-returns-in_err-lists-clause-gives
constructs::normal_for_all-returns-in_err-lists-clause-gives t c = let e : c.deref-2.result.now ≡ reverse c.args.sorts.items ++ c.args.bound.now = c.deref-2.ensures.value ∙ c.in_ok-within.ensures ∙ ap (λ ks. reverse ks ++ c.args.bound.now) c.deref.ensures.value in
    parts_refused c.normal_parts.new.terms (normal_patterns c.args.vars.now c.args.defs.now (reverse c.args.sorts.items ++ c.args.bound.now) (patterns_of (lists_at c.args.terms.now c.args.lists.now))) (normal c.args.vars.now c.args.defs.now (reverse c.args.sorts.items ++ c.args.bound.now) (at c.args.terms.now c.args.body)) c.from_residual-in_err-lists.result c.in_err-lists.field-0.0 (λ qs u. quantified (λ v. for_all c.args.sorts.items qs v) u) c.from_residual-in_err-lists.ensures.1 (λ wide. subst (λ ks. normal_parts c.args.vars.now c.args.defs.now ks (patterns_of (lists_at c.args.terms.now c.args.lists.now)) (at c.args.terms.now c.args.body) ≡ None) e (c.in_err-lists.ensures.gives wide))

pub constructs::normal_for_all-for_all-requires-clause-lists : goal.constructs::normal_for_all-for_all-requires-clause-lists
constructs::normal_for_all-for_all-requires-clause-lists t c = c.in_ok-lists.ensures.lists

pub constructs::normal_for_all-for_all-requires-clause-body : goal.constructs::normal_for_all-for_all-requires-clause-body
constructs::normal_for_all-for_all-requires-clause-body t c = c.in_ok-lists.ensures.body

pub constructs::normal_for_all-returns-clause-gives : goal.constructs::normal_for_all-returns-clause-gives
constructs::normal_for_all-returns-clause-gives t c = let e : c.deref-2.result.now ≡ reverse c.args.sorts.items ++ c.args.bound.now = c.deref-2.ensures.value ∙ c.in_ok-within.ensures ∙ ap (λ ks. reverse ks ++ c.args.bound.now) c.deref.ensures.value in
    let made : normal_parts c.args.vars.now c.args.defs.now (reverse c.args.sorts.items ++ c.args.bound.now) (patterns_of (lists_at c.args.terms.now c.args.lists.now)) (at c.args.terms.now c.args.body) ≡ Some ((patterns_of (lists_at c.normal_parts.new.terms c.in_ok-lists.lists.items)), (at c.normal_parts.new.terms c.in_ok-lists.body)) = subst (λ ks. normal_parts c.args.vars.now c.args.defs.now ks (patterns_of (lists_at c.args.terms.now c.args.lists.now)) (at c.args.terms.now c.args.body) ≡ Some ((patterns_of (lists_at c.normal_parts.new.terms c.in_ok-lists.lists.items)), (at c.normal_parts.new.terms c.in_ok-lists.body))) e c.in_ok-lists.ensures.gives in
    parts_made c.for_all.new.terms (normal_patterns c.args.vars.now c.args.defs.now (reverse c.args.sorts.items ++ c.args.bound.now) (patterns_of (lists_at c.args.terms.now c.args.lists.now))) (normal c.args.vars.now c.args.defs.now (reverse c.args.sorts.items ++ c.args.bound.now) (at c.args.terms.now c.args.body)) c.in_ok-for_all.field-0 (patterns_of (lists_at c.normal_parts.new.terms c.in_ok-lists.lists.items)) (at c.normal_parts.new.terms c.in_ok-lists.body) (λ qs u. quantified (λ v. for_all c.args.sorts.items qs v) u) made c.in_ok-for_all.ensures.gives

pub constructs::normal_exists-normal_parts-requires : goal.constructs::normal_exists-normal_parts-requires
constructs::normal_exists-normal_parts-requires t c = (omega (arith, c.decreases), (c.requires.below, (c.requires.lists, (c.requires.body, c.requires.forms))))

pub constructs::normal_exists-returns-in_err-lists-clause-grows : goal.constructs::normal_exists-returns-in_err-lists-clause-grows
constructs::normal_exists-returns-in_err-lists-clause-grows t c = c.normal_parts.ensures.grows

pub constructs::normal_exists-returns-in_err-lists-clause-forms : goal.constructs::normal_exists-returns-in_err-lists-clause-forms
constructs::normal_exists-returns-in_err-lists-clause-forms t c = c.normal_parts.ensures.forms

pub constructs::normal_exists-returns-in_err-lists-clause-gives : goal.constructs::normal_exists-returns-in_err-lists-clause-gives
constructs::normal_exists-returns-in_err-lists-clause-gives t c = let e : c.deref-2.result.now ≡ reverse c.args.sorts.items ++ c.args.bound.now = c.deref-2.ensures.value ∙ c.in_ok-within.ensures ∙ ap (λ ks. reverse ks ++ c.args.bound.now) c.deref.ensures.value in
    parts_refused c.normal_parts.new.terms (normal_patterns c.args.vars.now c.args.defs.now (reverse c.args.sorts.items ++ c.args.bound.now) (patterns_of (lists_at c.args.terms.now c.args.lists.now))) (normal c.args.vars.now c.args.defs.now (reverse c.args.sorts.items ++ c.args.bound.now) (at c.args.terms.now c.args.body)) c.from_residual-in_err-lists.result c.in_err-lists.field-0.0 (λ qs u. quantified (λ v. exists c.args.sorts.items qs v) u) c.from_residual-in_err-lists.ensures.1 (λ wide. subst (λ ks. normal_parts c.args.vars.now c.args.defs.now ks (patterns_of (lists_at c.args.terms.now c.args.lists.now)) (at c.args.terms.now c.args.body) ≡ None) e (c.in_err-lists.ensures.gives wide))

pub constructs::normal_exists-exists-requires-clause-lists : goal.constructs::normal_exists-exists-requires-clause-lists
constructs::normal_exists-exists-requires-clause-lists t c = c.in_ok-lists.ensures.lists

pub constructs::normal_exists-exists-requires-clause-body : goal.constructs::normal_exists-exists-requires-clause-body
constructs::normal_exists-exists-requires-clause-body t c = c.in_ok-lists.ensures.body

pub constructs::normal_exists-returns-clause-gives : goal.constructs::normal_exists-returns-clause-gives
constructs::normal_exists-returns-clause-gives t c = let e : c.deref-2.result.now ≡ reverse c.args.sorts.items ++ c.args.bound.now = c.deref-2.ensures.value ∙ c.in_ok-within.ensures ∙ ap (λ ks. reverse ks ++ c.args.bound.now) c.deref.ensures.value in
    let made : normal_parts c.args.vars.now c.args.defs.now (reverse c.args.sorts.items ++ c.args.bound.now) (patterns_of (lists_at c.args.terms.now c.args.lists.now)) (at c.args.terms.now c.args.body) ≡ Some ((patterns_of (lists_at c.normal_parts.new.terms c.in_ok-lists.lists.items)), (at c.normal_parts.new.terms c.in_ok-lists.body)) = subst (λ ks. normal_parts c.args.vars.now c.args.defs.now ks (patterns_of (lists_at c.args.terms.now c.args.lists.now)) (at c.args.terms.now c.args.body) ≡ Some ((patterns_of (lists_at c.normal_parts.new.terms c.in_ok-lists.lists.items)), (at c.normal_parts.new.terms c.in_ok-lists.body))) e c.in_ok-lists.ensures.gives in
    parts_made c.exists.new.terms (normal_patterns c.args.vars.now c.args.defs.now (reverse c.args.sorts.items ++ c.args.bound.now) (patterns_of (lists_at c.args.terms.now c.args.lists.now))) (normal c.args.vars.now c.args.defs.now (reverse c.args.sorts.items ++ c.args.bound.now) (at c.args.terms.now c.args.body)) c.in_ok-exists.field-0 (patterns_of (lists_at c.normal_parts.new.terms c.in_ok-lists.lists.items)) (at c.normal_parts.new.terms c.in_ok-lists.body) (λ qs u. quantified (λ v. exists c.args.sorts.items qs v) u) made c.in_ok-exists.ensures.gives

pub listed::normal_two-normal_under-requires : goal.listed::normal_two-normal_under-requires
listed::normal_two-normal_under-requires t c = (omega (arith, c.decreases, c.requires.a), (omega (arith, c.requires.a, c.requires.below), c.requires.forms))

pub listed::normal_two-returns-in_err-first-clause-grows : goal.listed::normal_two-returns-in_err-first-clause-grows
listed::normal_two-returns-in_err-first-clause-grows t c = c.normal_under.ensures.grows

pub listed::normal_two-returns-in_err-first-clause-forms : goal.listed::normal_two-returns-in_err-first-clause-forms
listed::normal_two-returns-in_err-first-clause-forms t c = c.normal_under.ensures.forms

pub listed::normal_two-returns-in_err-first-clause-gives : goal.listed::normal_two-returns-in_err-first-clause-gives
listed::normal_two-returns-in_err-first-clause-gives t c = gives_err (λ (p : ℕ × ℕ). (at c.normal_under.new.terms p.0, at c.normal_under.new.terms p.1)) c.from_residual.result c.in_err-first.field-0.0 (normal_two c.args.vars.now c.args.defs.now c.args.bound.now (at c.args.terms.now c.args.a) (at c.args.terms.now c.args.b)) c.from_residual.ensures.1 (λ wide. first_none (normal c.args.vars.now c.args.defs.now c.args.bound.now (at c.args.terms.now c.args.a)) (λ u. normal c.args.vars.now c.args.defs.now c.args.bound.now (at c.args.terms.now c.args.b) >>= λ v. Some (u, v)) (c.in_err-first.ensures.gives wide))

pub listed::normal_two-normal_under-requires-2 : goal.listed::normal_two-normal_under-requires-2
listed::normal_two-normal_under-requires-2 t c = (omega (arith, c.decreases, c.requires.b), (omega (arith, c.requires.b, c.requires.below, begins_length c.args.terms.now c.normal_under.new.terms c.in_ok-first.ensures.grows), c.in_ok-first.ensures.forms))

pub listed::normal_two-returns-in_err-second-clause-grows : goal.listed::normal_two-returns-in_err-second-clause-grows
listed::normal_two-returns-in_err-second-clause-grows t c = begins_then c.args.terms.now c.normal_under.new.terms c.normal_under-2.new.terms c.in_ok-first.ensures.grows c.normal_under-2.ensures.grows

pub listed::normal_two-returns-in_err-second-clause-forms : goal.listed::normal_two-returns-in_err-second-clause-forms
listed::normal_two-returns-in_err-second-clause-forms t c = c.normal_under-2.ensures.forms

pub listed::normal_two-returns-in_err-second-clause-gives : goal.listed::normal_two-returns-in_err-second-clause-gives
listed::normal_two-returns-in_err-second-clause-gives t c = let low : c.args.b < length c.args.terms.now = omega (arith, c.requires.b, c.requires.below) in
    gives_err (λ (p : ℕ × ℕ). (at c.normal_under-2.new.terms p.0, at c.normal_under-2.new.terms p.1)) c.from_residual-in_err-second.result c.in_err-second.field-0.0 (normal_two c.args.vars.now c.args.defs.now c.args.bound.now (at c.args.terms.now c.args.a) (at c.args.terms.now c.args.b)) c.from_residual-in_err-second.ensures.1 (λ wide.
    last_none (normal c.args.vars.now c.args.defs.now c.args.bound.now (at c.args.terms.now c.args.a)) (normal c.args.vars.now c.args.defs.now c.args.bound.now (at c.args.terms.now c.args.b)) (λ u v. Some (u, v)) (form_before c.args.vars.now c.args.defs.now c.args.bound.now c.args.terms.now c.normal_under.new.terms c.in_ok-first.ensures.grows c.args.b None low (c.in_err-second.ensures.gives wide)))

pub listed::normal_two-returns-clause-grows : goal.listed::normal_two-returns-clause-grows
listed::normal_two-returns-clause-grows t c = begins_then c.args.terms.now c.normal_under.new.terms c.normal_under-2.new.terms c.in_ok-first.ensures.grows c.in_ok-second.ensures.grows

pub listed::normal_two-returns-clause-forms : goal.listed::normal_two-returns-clause-forms
listed::normal_two-returns-clause-forms t c = c.in_ok-second.ensures.forms

pub listed::normal_two-returns-clause-gives : goal.listed::normal_two-returns-clause-gives
listed::normal_two-returns-clause-gives t c = let low : c.args.b < length c.args.terms.now = omega (arith, c.requires.b, c.requires.below) in
    two_forms c.args.vars.now c.args.defs.now c.args.bound.now c.args.terms.now c.normal_under.new.terms c.in_ok-first.ensures.grows c.normal_under-2.new.terms c.in_ok-second.ensures.grows c.args.a c.args.b c.in_ok-first.first c.in_ok-second.second low c.in_ok-first.ensures.gives.0 c.in_ok-first.ensures.gives.1 c.in_ok-second.ensures.gives.1

pub listed::normal_two-returns-clause-first : goal.listed::normal_two-returns-clause-first
listed::normal_two-returns-clause-first t c = still_below c.normal_under.new.terms c.normal_under-2.new.terms c.in_ok-first.first c.in_ok-second.ensures.grows c.in_ok-first.ensures.gives.0

pub listed::normal_two-returns-clause-second : goal.listed::normal_two-returns-clause-second
listed::normal_two-returns-clause-second t c = c.in_ok-second.ensures.gives.0

pub listed::normal_three-normal_under-requires : goal.listed::normal_three-normal_under-requires
listed::normal_three-normal_under-requires t c = (omega (arith, c.decreases, c.requires.a), (omega (arith, c.requires.a, c.requires.below), c.requires.forms))

pub listed::normal_three-returns-in_err-first-clause-grows : goal.listed::normal_three-returns-in_err-first-clause-grows
listed::normal_three-returns-in_err-first-clause-grows t c = c.normal_under.ensures.grows

pub listed::normal_three-returns-in_err-first-clause-forms : goal.listed::normal_three-returns-in_err-first-clause-forms
listed::normal_three-returns-in_err-first-clause-forms t c = c.normal_under.ensures.forms

pub listed::normal_three-returns-in_err-first-clause-gives : goal.listed::normal_three-returns-in_err-first-clause-gives
listed::normal_three-returns-in_err-first-clause-gives t c = gives_err (λ (p : ℕ × ℕ × ℕ). (at c.normal_under.new.terms p.0, at c.normal_under.new.terms p.1, at c.normal_under.new.terms p.2)) c.from_residual.result c.in_err-first.field-0.0 (normal_three c.args.vars.now c.args.defs.now c.args.bound.now (at c.args.terms.now c.args.a) (at c.args.terms.now c.args.b) (at c.args.terms.now c.args.c)) c.from_residual.ensures.1 (λ wide. first_none (normal c.args.vars.now c.args.defs.now c.args.bound.now (at c.args.terms.now c.args.a)) (λ u. normal c.args.vars.now c.args.defs.now c.args.bound.now (at c.args.terms.now c.args.b) >>= λ v. normal c.args.vars.now c.args.defs.now c.args.bound.now (at c.args.terms.now c.args.c) >>= λ w. Some (u, v, w)) (c.in_err-first.ensures.gives wide))

pub listed::normal_three-normal_two-requires : goal.listed::normal_three-normal_two-requires
listed::normal_three-normal_two-requires t c = (omega (arith, c.decreases), (omega (arith, c.requires.below, begins_length c.args.terms.now c.normal_under.new.terms c.in_ok-first.ensures.grows), (c.requires.b, (c.requires.c, c.in_ok-first.ensures.forms))))

pub listed::normal_three-returns-in_err-second-clause-grows : goal.listed::normal_three-returns-in_err-second-clause-grows
listed::normal_three-returns-in_err-second-clause-grows t c = begins_then c.args.terms.now c.normal_under.new.terms c.normal_two.new.terms c.in_ok-first.ensures.grows c.normal_two.ensures.grows

pub listed::normal_three-returns-in_err-second-clause-forms : goal.listed::normal_three-returns-in_err-second-clause-forms
listed::normal_three-returns-in_err-second-clause-forms t c = c.normal_two.ensures.forms

pub listed::normal_three-returns-in_err-second-clause-gives : goal.listed::normal_three-returns-in_err-second-clause-gives
listed::normal_three-returns-in_err-second-clause-gives t c = let low : c.args.b < length c.args.terms.now = omega (arith, c.requires.b, c.requires.below) in let less : c.args.c < length c.args.terms.now = omega (arith, c.requires.c, c.requires.below) in
    gives_err (λ (p : ℕ × ℕ × ℕ). (at c.normal_two.new.terms p.0, at c.normal_two.new.terms p.1, at c.normal_two.new.terms p.2)) c.from_residual-in_err-second.result c.in_err-second.field-0.0 (normal_three c.args.vars.now c.args.defs.now c.args.bound.now (at c.args.terms.now c.args.a) (at c.args.terms.now c.args.b) (at c.args.terms.now c.args.c)) c.from_residual-in_err-second.ensures.1 (λ wide.
    last_two_none (normal c.args.vars.now c.args.defs.now c.args.bound.now (at c.args.terms.now c.args.a)) (normal c.args.vars.now c.args.defs.now c.args.bound.now (at c.args.terms.now c.args.b)) (normal c.args.vars.now c.args.defs.now c.args.bound.now (at c.args.terms.now c.args.c)) (two_before c.args.vars.now c.args.defs.now c.args.bound.now c.args.terms.now c.normal_under.new.terms c.in_ok-first.ensures.grows c.args.b c.args.c None low less (c.in_err-second.ensures.gives wide)))

pub listed::normal_three-returns-clause-grows : goal.listed::normal_three-returns-clause-grows
listed::normal_three-returns-clause-grows t c = begins_then c.args.terms.now c.normal_under.new.terms c.normal_two.new.terms c.in_ok-first.ensures.grows c.in_ok-second.ensures.grows

pub listed::normal_three-returns-clause-forms : goal.listed::normal_three-returns-clause-forms
listed::normal_three-returns-clause-forms t c = c.in_ok-second.ensures.forms

pub listed::normal_three-returns-clause-gives : goal.listed::normal_three-returns-clause-gives
listed::normal_three-returns-clause-gives t c = let low : c.args.b < length c.args.terms.now = omega (arith, c.requires.b, c.requires.below) in let less : c.args.c < length c.args.terms.now = omega (arith, c.requires.c, c.requires.below) in
    three_forms (normal c.args.vars.now c.args.defs.now c.args.bound.now (at c.args.terms.now c.args.a)) (normal c.args.vars.now c.args.defs.now c.args.bound.now (at c.args.terms.now c.args.b)) (normal c.args.vars.now c.args.defs.now c.args.bound.now (at c.args.terms.now c.args.c)) (at c.normal_two.new.terms c.in_ok-first.first) (at c.normal_two.new.terms c.in_ok-second.second) (at c.normal_two.new.terms c.in_ok-second.third) (c.in_ok-first.ensures.gives.1 ∙ ap Some (sym (begins_at c.normal_under.new.terms c.normal_two.new.terms c.in_ok-first.first c.in_ok-second.ensures.grows c.in_ok-first.ensures.gives.0))) (two_before c.args.vars.now c.args.defs.now c.args.bound.now c.args.terms.now c.normal_under.new.terms c.in_ok-first.ensures.grows c.args.b c.args.c (Some ((at c.normal_two.new.terms c.in_ok-second.second), (at c.normal_two.new.terms c.in_ok-second.third))) low less c.in_ok-second.ensures.gives)

pub listed::normal_three-returns-clause-first : goal.listed::normal_three-returns-clause-first
listed::normal_three-returns-clause-first t c = still_below c.normal_under.new.terms c.normal_two.new.terms c.in_ok-first.first c.in_ok-second.ensures.grows c.in_ok-first.ensures.gives.0

pub listed::normal_three-returns-clause-second : goal.listed::normal_three-returns-clause-second
listed::normal_three-returns-clause-second t c = c.in_ok-second.ensures.first

pub listed::normal_three-returns-clause-third : goal.listed::normal_three-returns-clause-third
listed::normal_three-returns-clause-third t c = c.in_ok-second.ensures.second

pub listed::normal_each-loop-id-init : goal.listed::normal_each-loop-id-init
listed::normal_each-loop-id-init t c = let whole = (normal_each c.args.vars.now c.args.defs.now c.args.bound.now (trees_of (terms_at c.args.terms.now c.args.ids.now))) in
    record {
      made = ap (λ ws. option_map (before tree_before (terms_at c.args.terms.now ws)) whole) c.new-done.ensures.items ∙ no_trees_before whole;
      within = rw c.new-done.ensures.items tt;
      forms = c.requires.forms;
      grows = begins_same c.args.terms.now;
    }

pub listed::normal_each-normal_under-requires : goal.listed::normal_each-normal_under-requires
listed::normal_each-normal_under-requires t c = let low : c.id-item.result < c.args.below = item_below c.args.below c.args.ids.now c.loop-id.id-index c.id-item.result c.requires.ids c.loop-id-test.true c.id-item.is in
    (omega (arith, c.decreases, low), (omega (arith, low, c.requires.below, begins_length c.args.terms.now c.loop-id.terms c.loop-id.invariant.grows), c.loop-id.invariant.forms))

pub listed::normal_each-returns-in_err-form-clause-grows : goal.listed::normal_each-returns-in_err-form-clause-grows
listed::normal_each-returns-in_err-form-clause-grows t c = begins_then c.args.terms.now c.loop-id.terms c.normal_under.new.terms c.loop-id.invariant.grows c.normal_under.ensures.grows

pub listed::normal_each-returns-in_err-form-clause-forms : goal.listed::normal_each-returns-in_err-form-clause-forms
listed::normal_each-returns-in_err-form-clause-forms t c = c.normal_under.ensures.forms

pub listed::normal_each-returns-in_err-form-clause-gives : goal.listed::normal_each-returns-in_err-form-clause-gives
listed::normal_each-returns-in_err-form-clause-gives t c = let low : c.id-item.result < c.args.below = item_below c.args.below c.args.ids.now c.loop-id.id-index c.id-item.result c.requires.ids c.loop-id-test.true c.id-item.is in
    let within : c.id-item.result < length c.args.terms.now = omega (arith, low, c.requires.below) in
    gives_err (λ (v : Vec ℕ Global). trees_of (terms_at c.normal_under.new.terms v.items)) c.from_residual.result c.in_err-form.field-0.0 (normal_each c.args.vars.now c.args.defs.now c.args.bound.now (trees_of (terms_at c.args.terms.now c.args.ids.now))) c.from_residual.ensures.1 (λ wide.
    each_none c.args.vars.now c.args.defs.now c.args.bound.now c.args.terms.now c.loop-id.terms c.normal_under.new.terms c.loop-id.invariant.grows c.normal_under.ensures.grows c.loop-id.done.items c.args.ids.now c.loop-id.id-index c.id-item.result (normal_each c.args.vars.now c.args.defs.now c.args.bound.now (trees_of (terms_at c.args.terms.now c.args.ids.now))) c.loop-id-test.true c.id-item.is within (c.in_err-form.ensures.gives wide) c.loop-id.invariant.made)

pub listed::normal_each-returns-in_err-push-clause-grows : goal.listed::normal_each-returns-in_err-push-clause-grows
listed::normal_each-returns-in_err-push-clause-grows t c = begins_then c.args.terms.now c.loop-id.terms c.normal_under.new.terms c.loop-id.invariant.grows c.in_ok-form.ensures.grows

pub listed::normal_each-returns-in_err-push-clause-forms : goal.listed::normal_each-returns-in_err-push-clause-forms
listed::normal_each-returns-in_err-push-clause-forms t c = c.in_ok-form.ensures.forms

pub listed::normal_lists-loop-list-init : goal.listed::normal_lists-loop-list-init
listed::normal_lists-loop-list-init t c = let whole = normal_patterns c.args.vars.now c.args.defs.now c.args.bound.now (patterns_of (lists_at c.args.terms.now c.args.lists.now)) in
    record {
      made = ap (λ ws. option_map (before row_before (lists_at c.args.terms.now ws)) whole) c.new-done.ensures.items ∙ no_rows_before whole;
      within = rw c.new-done.ensures.items tt;
      forms = c.requires.forms;
      grows = begins_same c.args.terms.now;
    }

pub listed::normal_lists-returns-in_err-row-clause-grows : goal.listed::normal_lists-returns-in_err-row-clause-grows
listed::normal_lists-returns-in_err-row-clause-grows t c = begins_then c.args.terms.now c.loop-list.terms c.normal_each.new.terms c.loop-list.invariant.grows c.normal_each.ensures.grows

pub listed::normal_lists-returns-in_err-row-clause-forms : goal.listed::normal_lists-returns-in_err-row-clause-forms
listed::normal_lists-returns-in_err-row-clause-forms t c = c.normal_each.ensures.forms

pub listed::normal_lists-returns-in_err-push-clause-grows : goal.listed::normal_lists-returns-in_err-push-clause-grows
listed::normal_lists-returns-in_err-push-clause-grows t c = begins_then c.args.terms.now c.loop-list.terms c.normal_each.new.terms c.loop-list.invariant.grows c.in_ok-row.ensures.grows

pub listed::normal_lists-returns-in_err-push-clause-forms : goal.listed::normal_lists-returns-in_err-push-clause-forms
listed::normal_lists-returns-in_err-push-clause-forms t c = c.in_ok-row.ensures.forms

pub listed::normal_parts-normal_lists-requires : goal.listed::normal_parts-normal_lists-requires
listed::normal_parts-normal_lists-requires t c = (omega (arith, c.decreases), (c.requires.below, (c.requires.lists, c.requires.forms)))

pub listed::normal_parts-returns-in_err-lists-clause-grows : goal.listed::normal_parts-returns-in_err-lists-clause-grows
listed::normal_parts-returns-in_err-lists-clause-grows t c = c.normal_lists.ensures.grows

pub listed::normal_parts-returns-in_err-lists-clause-forms : goal.listed::normal_parts-returns-in_err-lists-clause-forms
listed::normal_parts-returns-in_err-lists-clause-forms t c = c.normal_lists.ensures.forms

pub listed::normal_parts-returns-in_err-lists-clause-gives : goal.listed::normal_parts-returns-in_err-lists-clause-gives
listed::normal_parts-returns-in_err-lists-clause-gives t c = gives_err (λ (p : Vec (Vec ℕ Global) Global × ℕ). (patterns_of (lists_at c.normal_lists.new.terms p.0.items), at c.normal_lists.new.terms p.1)) c.from_residual.result c.in_err-lists.field-0.0 (normal_parts c.args.vars.now c.args.defs.now c.args.bound.now (patterns_of (lists_at c.args.terms.now c.args.lists.now)) (at c.args.terms.now c.args.body)) c.from_residual.ensures.1 (λ wide. first_none (normal_patterns c.args.vars.now c.args.defs.now c.args.bound.now (patterns_of (lists_at c.args.terms.now c.args.lists.now))) (λ qs. (normal c.args.vars.now c.args.defs.now c.args.bound.now (at c.args.terms.now c.args.body)) >>= λ u. Some (qs, u)) (c.in_err-lists.ensures.gives wide))

pub listed::normal_parts-normal_under-requires : goal.listed::normal_parts-normal_under-requires
listed::normal_parts-normal_under-requires t c = (omega (arith, c.decreases, c.requires.body), (omega (arith, c.requires.body, c.requires.below, begins_length c.args.terms.now c.normal_lists.new.terms c.in_ok-lists.ensures.grows), c.in_ok-lists.ensures.forms))

pub listed::normal_parts-returns-in_err-body-clause-grows : goal.listed::normal_parts-returns-in_err-body-clause-grows
listed::normal_parts-returns-in_err-body-clause-grows t c = begins_then c.args.terms.now c.normal_lists.new.terms c.normal_under.new.terms c.in_ok-lists.ensures.grows c.normal_under.ensures.grows

pub listed::normal_parts-returns-in_err-body-clause-forms : goal.listed::normal_parts-returns-in_err-body-clause-forms
listed::normal_parts-returns-in_err-body-clause-forms t c = c.normal_under.ensures.forms

pub listed::normal_parts-returns-in_err-body-clause-gives : goal.listed::normal_parts-returns-in_err-body-clause-gives
listed::normal_parts-returns-in_err-body-clause-gives t c = let low : c.args.body < length c.args.terms.now = omega (arith, c.requires.body, c.requires.below) in
    gives_err (λ (p : Vec (Vec ℕ Global) Global × ℕ). (patterns_of (lists_at c.normal_under.new.terms p.0.items), at c.normal_under.new.terms p.1)) c.from_residual-in_err-body.result c.in_err-body.field-0.0 (normal_parts c.args.vars.now c.args.defs.now c.args.bound.now (patterns_of (lists_at c.args.terms.now c.args.lists.now)) (at c.args.terms.now c.args.body)) c.from_residual-in_err-body.ensures.1 (λ wide.
    last_none (normal_patterns c.args.vars.now c.args.defs.now c.args.bound.now (patterns_of (lists_at c.args.terms.now c.args.lists.now))) (normal c.args.vars.now c.args.defs.now c.args.bound.now (at c.args.terms.now c.args.body)) (λ qs u. Some (qs, u)) (form_before c.args.vars.now c.args.defs.now c.args.bound.now c.args.terms.now c.normal_lists.new.terms c.in_ok-lists.ensures.grows c.args.body None low (c.in_err-body.ensures.gives wide)))

pub listed::normal_parts-returns-clause-grows : goal.listed::normal_parts-returns-clause-grows
listed::normal_parts-returns-clause-grows t c = begins_then c.args.terms.now c.normal_lists.new.terms c.normal_under.new.terms c.in_ok-lists.ensures.grows c.in_ok-body.ensures.grows

pub listed::normal_parts-returns-clause-forms : goal.listed::normal_parts-returns-clause-forms
listed::normal_parts-returns-clause-forms t c = c.in_ok-body.ensures.forms

pub listed::normal_parts-returns-clause-body : goal.listed::normal_parts-returns-clause-body
listed::normal_parts-returns-clause-body t c = c.in_ok-body.ensures.gives.0

pub listed::normal_sum-normal_atoms-requires : goal.listed::normal_sum-normal_atoms-requires
listed::normal_sum-normal_atoms-requires t c = (omega (arith, c.decreases), (c.requires.below, (c.requires.parts, c.requires.forms)))

pub listed::normal_sum-returns-in_err-sum-clause-grows : goal.listed::normal_sum-returns-in_err-sum-clause-grows
listed::normal_sum-returns-in_err-sum-clause-grows t c = c.normal_atoms.ensures.grows

pub listed::normal_sum-returns-in_err-sum-clause-forms : goal.listed::normal_sum-returns-in_err-sum-clause-forms
listed::normal_sum-returns-in_err-sum-clause-forms t c = c.normal_atoms.ensures.forms

pub listed::normal_sum-returns-in_err-sum-clause-gives : goal.listed::normal_sum-returns-in_err-sum-clause-gives
listed::normal_sum-returns-in_err-sum-clause-gives t c = one_unmade c.normal_atoms.new.terms (normal_sum c.args.vars.now c.args.defs.now c.args.bound.now (parts_of (atoms_at c.args.terms.now c.args.parts.now)) (constant c.args.c)) c.from_residual.result c.in_err-sum.field-0.0 term_of c.from_residual.ensures.1 (λ wide. rw (to_z-of_z w128 c.args.c c.ranges.c) at (c.in_err-sum.ensures.gives wide))

pub listed::normal_sum-make-requires : goal.listed::normal_sum-make-requires
listed::normal_sum-make-requires t c = c.in_ok-sum.ensures.within

pub listed::normal_sum-returns-clause-gives : goal.listed::normal_sum-returns-clause-gives
listed::normal_sum-returns-clause-gives t c = one_made c.make.new.terms (normal_sum c.args.vars.now c.args.defs.now c.args.bound.now (parts_of (atoms_at c.args.terms.now c.args.parts.now)) (constant c.args.c)) c.in_ok-make.field-0 (sum_at c.normal_atoms.new.terms c.in_ok-sum.sum) term_of (rw (to_z-of_z w128 c.args.c c.ranges.c) at c.in_ok-sum.ensures.gives) c.in_ok-make.ensures.gives

pub listed::normal_atoms-returns-in_err-sum-clause-grows : goal.listed::normal_atoms-returns-in_err-sum-clause-grows
listed::normal_atoms-returns-in_err-sum-clause-grows t c = begins_then c.args.terms.now c.loop-part.terms c.normal_atom.new.terms c.loop-part.invariant.grows c.normal_atom.ensures.grows

pub listed::normal_atoms-returns-in_err-sum-clause-forms : goal.listed::normal_atoms-returns-in_err-sum-clause-forms
listed::normal_atoms-returns-in_err-sum-clause-forms t c = c.normal_atom.ensures.forms

pub listed::normal_atoms-returns-clause-gives : goal.listed::normal_atoms-returns-clause-gives
listed::normal_atoms-returns-clause-gives t c = atoms_all c.args.vars.now c.args.defs.now c.args.bound.now c.args.terms.now c.loop-part.terms c.args.parts.now c.loop-part.part-index (sum_at c.loop-part.terms c.loop-part.sum) (normal_sum c.args.vars.now c.args.defs.now c.args.bound.now (parts_of (atoms_at c.args.terms.now c.args.parts.now)) (constant c.args.c)) c.loop-part-test.false (rw (to_z-of_z w128 c.args.c c.ranges.c) at c.loop-part.invariant.left)

pub listed::normal_atom-normal_under-requires : goal.listed::normal_atom-normal_under-requires
listed::normal_atom-normal_under-requires t c = (omega (arith, c.decreases), (c.requires.id, c.requires.forms))

pub listed::normal_atom-returns-in_err-form-clause-grows : goal.listed::normal_atom-returns-in_err-form-clause-grows
listed::normal_atom-returns-in_err-form-clause-grows t c = c.normal_under.ensures.grows

pub listed::normal_atom-returns-in_err-form-clause-forms : goal.listed::normal_atom-returns-in_err-form-clause-forms
listed::normal_atom-returns-in_err-form-clause-forms t c = c.normal_under.ensures.forms

pub listed::normal_atom-returns-in_err-form-clause-gives : goal.listed::normal_atom-returns-in_err-form-clause-gives
listed::normal_atom-returns-in_err-form-clause-gives t c = gives_err (sum_at c.normal_under.new.terms) c.from_residual.result c.in_err-form.field-0.0 (normal_atom c.args.vars.now c.args.defs.now c.args.bound.now c.args.k (at c.args.terms.now c.args.id) (sum_at c.args.terms.now c.args.sum)) c.from_residual.ensures.1 (λ wide. first_none (normal c.args.vars.now c.args.defs.now c.args.bound.now (at c.args.terms.now c.args.id)) (λ u. add_term c.args.k u (sum_at c.args.terms.now c.args.sum)) (c.in_err-form.ensures.gives wide))

pub listed::normal_atom-add_term-requires-clause-id : goal.listed::normal_atom-add_term-requires-clause-id
listed::normal_atom-add_term-requires-clause-id t c = c.in_ok-form.ensures.gives.0

pub listed::normal_atom-add_term-requires-clause-parts : goal.listed::normal_atom-add_term-requires-clause-parts
listed::normal_atom-add_term-requires-clause-parts t c = numbers_stay c.args.terms.now c.normal_under.new.terms c.in_ok-form.ensures.grows (map (λ (p : ℤ × ℕ). p.1) c.args.sum.parts.items) c.requires.sum

pub listed::normal_atom-returns-clause-grows : goal.listed::normal_atom-returns-clause-grows
listed::normal_atom-returns-clause-grows t c = c.in_ok-form.ensures.grows

pub listed::normal_atom-returns-clause-forms : goal.listed::normal_atom-returns-clause-forms
listed::normal_atom-returns-clause-forms t c = c.in_ok-form.ensures.forms

pub normal::normal_closed-normal_node-requires : goal.normal::normal_closed-normal_node-requires
normal::normal_closed-normal_node-requires t c = (omega (arith, c.decreases), (c.requires.id, c.requires.forms))

pub normal::normal_closed-returns-in_err-form-clause-grows : goal.normal::normal_closed-returns-in_err-form-clause-grows
normal::normal_closed-returns-in_err-form-clause-grows t c = c.normal_node.ensures.grows

pub normal::normal_closed-returns-in_err-form-clause-forms : goal.normal::normal_closed-returns-in_err-form-clause-forms
normal::normal_closed-returns-in_err-form-clause-forms t c = c.normal_node.ensures.forms

pub normal::normal_closed-returns-in_err-form-clause-gives : goal.normal::normal_closed-returns-in_err-form-clause-gives
normal::normal_closed-returns-in_err-form-clause-gives t c = at_err c.normal_node.new.terms c.from_residual.result c.in_err-form.field-0.0 (normal c.args.vars.now c.args.defs.now c.args.bound.now (at c.args.terms.now c.args.id)) c.from_residual.ensures.1 c.in_err-form.ensures.gives

pub normal::normal_closed-returns-in_err-put-clause-grows : goal.normal::normal_closed-returns-in_err-put-clause-grows
normal::normal_closed-returns-in_err-put-clause-grows t c = c.in_ok-form.ensures.grows

pub normal::normal_closed-returns-clause-grows : goal.normal::normal_closed-returns-clause-grows
normal::normal_closed-returns-clause-grows t c = c.in_ok-form.ensures.grows

pub normal::normal_closed-returns-clause-gives : goal.normal::normal_closed-returns-clause-gives
normal::normal_closed-returns-clause-gives t c = c.in_ok-form.ensures.gives

pub normal::normal_node-normal_product-requires : goal.normal::normal_node-normal_product-requires
normal::normal_node-normal_product-requires t c = let whole = subst (λ m. AllByRecursion (λ j. j < c.args.id) (numbers_in m)) c.in-Mul.is c.node.ensures.lower in
    (omega (arith, c.decreases, c.id.view_is), (omega (arith, c.requires.id, c.id.view_is), (omega (arith, whole.0, c.id.view_is), (omega (arith, whole.1.0, c.id.view_is), c.requires.forms))))

pub normal::normal_node-returns-in-Mul-clause-grows : goal.normal::normal_node-returns-in-Mul-clause-grows
normal::normal_node-returns-in-Mul-clause-grows t c = c.normal_product.ensures.grows

pub normal::normal_node-returns-in-Mul-clause-forms : goal.normal::normal_node-returns-in-Mul-clause-forms
normal::normal_node-returns-in-Mul-clause-forms t c = c.normal_product.ensures.forms

pub normal::normal_node-returns-in-Mul-clause-gives : goal.normal::normal_node-returns-in-Mul-clause-gives
normal::normal_node-returns-in-Mul-clause-gives t c = subst (λ u. GivesAt c.normal_product.new.terms c.normal_product.result (normal c.args.vars.now c.args.defs.now c.args.bound.now u)) (ap (tree_over (at c.args.terms.now)) (sym c.in-Mul.is) ∙ c.node.ensures.node) c.normal_product.ensures.gives

pub normal::normal_node-normal_read-requires : goal.normal::normal_node-normal_read-requires
normal::normal_node-normal_read-requires t c = let whole = subst (λ m. AllByRecursion (λ j. j < c.args.id) (numbers_in m)) c.in-Read.is c.node.ensures.lower in
    (omega (arith, c.decreases, c.id.view_is), (omega (arith, c.requires.id, c.id.view_is), (omega (arith, whole.0, c.id.view_is), (omega (arith, whole.1.0, c.id.view_is), c.requires.forms))))

pub normal::normal_node-returns-in-Read-clause-grows : goal.normal::normal_node-returns-in-Read-clause-grows
normal::normal_node-returns-in-Read-clause-grows t c = c.normal_read.ensures.grows

pub normal::normal_node-returns-in-Read-clause-forms : goal.normal::normal_node-returns-in-Read-clause-forms
normal::normal_node-returns-in-Read-clause-forms t c = c.normal_read.ensures.forms

pub normal::normal_node-returns-in-Read-clause-gives : goal.normal::normal_node-returns-in-Read-clause-gives
normal::normal_node-returns-in-Read-clause-gives t c = subst (λ u. GivesAt c.normal_read.new.terms c.normal_read.result (normal c.args.vars.now c.args.defs.now c.args.bound.now u)) (ap (tree_over (at c.args.terms.now)) (sym c.in-Read.is) ∙ c.node.ensures.node) c.normal_read.ensures.gives

pub normal::normal_node-normal_write-requires : goal.normal::normal_node-normal_write-requires
normal::normal_node-normal_write-requires t c = let whole = subst (λ m. AllByRecursion (λ j. j < c.args.id) (numbers_in m)) c.in-Write.is c.node.ensures.lower in
    (omega (arith, c.decreases, c.id.view_is), (omega (arith, c.requires.id, c.id.view_is), (omega (arith, whole.0, c.id.view_is), (omega (arith, whole.1.0, c.id.view_is), (omega (arith, whole.1.1.0, c.id.view_is), c.requires.forms)))))

pub normal::normal_node-returns-in-Write-clause-grows : goal.normal::normal_node-returns-in-Write-clause-grows
normal::normal_node-returns-in-Write-clause-grows t c = c.normal_write.ensures.grows

pub normal::normal_node-returns-in-Write-clause-forms : goal.normal::normal_node-returns-in-Write-clause-forms
normal::normal_node-returns-in-Write-clause-forms t c = c.normal_write.ensures.forms

pub normal::normal_node-returns-in-Write-clause-gives : goal.normal::normal_node-returns-in-Write-clause-gives
normal::normal_node-returns-in-Write-clause-gives t c = subst (λ u. GivesAt c.normal_write.new.terms c.normal_write.result (normal c.args.vars.now c.args.defs.now c.args.bound.now u)) (ap (tree_over (at c.args.terms.now)) (sym c.in-Write.is) ∙ c.node.ensures.node) c.normal_write.ensures.gives

pub normal::normal_node-normal_choice-requires : goal.normal::normal_node-normal_choice-requires
normal::normal_node-normal_choice-requires t c = let whole = subst (λ m. AllByRecursion (λ j. j < c.args.id) (numbers_in m)) c.in-If.is c.node.ensures.lower in
    (omega (arith, c.decreases, c.id.view_is), (omega (arith, c.requires.id, c.id.view_is), (omega (arith, whole.0, c.id.view_is), (omega (arith, whole.1.0, c.id.view_is), (omega (arith, whole.1.1.0, c.id.view_is), c.requires.forms)))))

pub normal::normal_node-returns-in-If-clause-grows : goal.normal::normal_node-returns-in-If-clause-grows
normal::normal_node-returns-in-If-clause-grows t c = c.normal_choice.ensures.grows

pub normal::normal_node-returns-in-If-clause-forms : goal.normal::normal_node-returns-in-If-clause-forms
normal::normal_node-returns-in-If-clause-forms t c = c.normal_choice.ensures.forms

pub normal::normal_node-returns-in-If-clause-gives : goal.normal::normal_node-returns-in-If-clause-gives
normal::normal_node-returns-in-If-clause-gives t c = subst (λ u. GivesAt c.normal_choice.new.terms c.normal_choice.result (normal c.args.vars.now c.args.defs.now c.args.bound.now u)) (ap (tree_over (at c.args.terms.now)) (sym c.in-If.is) ∙ c.node.ensures.node) c.normal_choice.ensures.gives

pub normal::normal_node-normal_negation-requires : goal.normal::normal_node-normal_negation-requires
normal::normal_node-normal_negation-requires t c = let whole = subst (λ m. AllByRecursion (λ j. j < c.args.id) (numbers_in m)) c.in-Not.is c.node.ensures.lower in
    (omega (arith, c.decreases, c.id.view_is), (omega (arith, c.requires.id, c.id.view_is), (omega (arith, whole.0, c.id.view_is), c.requires.forms)))

pub normal::normal_node-returns-in-Not-clause-grows : goal.normal::normal_node-returns-in-Not-clause-grows
normal::normal_node-returns-in-Not-clause-grows t c = c.normal_negation.ensures.grows

pub normal::normal_node-returns-in-Not-clause-forms : goal.normal::normal_node-returns-in-Not-clause-forms
normal::normal_node-returns-in-Not-clause-forms t c = c.normal_negation.ensures.forms

pub normal::normal_node-returns-in-Not-clause-gives : goal.normal::normal_node-returns-in-Not-clause-gives
normal::normal_node-returns-in-Not-clause-gives t c = subst (λ u. GivesAt c.normal_negation.new.terms c.normal_negation.result (normal c.args.vars.now c.args.defs.now c.args.bound.now u)) (ap (tree_over (at c.args.terms.now)) (sym c.in-Not.is) ∙ c.node.ensures.node) c.normal_negation.ensures.gives

pub normal::normal_node-normal_equation-requires : goal.normal::normal_node-normal_equation-requires
normal::normal_node-normal_equation-requires t c = let whole = subst (λ m. AllByRecursion (λ j. j < c.args.id) (numbers_in m)) c.in-Eq.is c.node.ensures.lower in
    (omega (arith, c.decreases, c.id.view_is), (omega (arith, c.requires.id, c.id.view_is), (omega (arith, whole.0, c.id.view_is), (omega (arith, whole.1.0, c.id.view_is), c.requires.forms))))

pub normal::normal_node-returns-in-Eq-clause-grows : goal.normal::normal_node-returns-in-Eq-clause-grows
normal::normal_node-returns-in-Eq-clause-grows t c = c.normal_equation.ensures.grows

pub normal::normal_node-returns-in-Eq-clause-forms : goal.normal::normal_node-returns-in-Eq-clause-forms
normal::normal_node-returns-in-Eq-clause-forms t c = c.normal_equation.ensures.forms

pub normal::normal_node-returns-in-Eq-clause-gives : goal.normal::normal_node-returns-in-Eq-clause-gives
normal::normal_node-returns-in-Eq-clause-gives t c = subst (λ u. GivesAt c.normal_equation.new.terms c.normal_equation.result (normal c.args.vars.now c.args.defs.now c.args.bound.now u)) (ap (tree_over (at c.args.terms.now)) (sym c.in-Eq.is) ∙ c.node.ensures.node) c.normal_equation.ensures.gives

pub normal::normal_node-normal_inequality-requires : goal.normal::normal_node-normal_inequality-requires
normal::normal_node-normal_inequality-requires t c = let whole = subst (λ m. AllByRecursion (λ j. j < c.args.id) (numbers_in m)) c.in-Le.is c.node.ensures.lower in
    (omega (arith, c.decreases, c.id.view_is), (omega (arith, c.requires.id, c.id.view_is), (omega (arith, whole.0, c.id.view_is), (omega (arith, whole.1.0, c.id.view_is), c.requires.forms))))

pub normal::normal_node-returns-in-Le-clause-grows : goal.normal::normal_node-returns-in-Le-clause-grows
normal::normal_node-returns-in-Le-clause-grows t c = c.normal_inequality.ensures.grows

pub normal::normal_node-returns-in-Le-clause-forms : goal.normal::normal_node-returns-in-Le-clause-forms
normal::normal_node-returns-in-Le-clause-forms t c = c.normal_inequality.ensures.forms

pub normal::normal_node-returns-in-Le-clause-gives : goal.normal::normal_node-returns-in-Le-clause-gives
normal::normal_node-returns-in-Le-clause-gives t c = subst (λ u. GivesAt c.normal_inequality.new.terms c.normal_inequality.result (normal c.args.vars.now c.args.defs.now c.args.bound.now u)) (ap (tree_over (at c.args.terms.now)) (sym c.in-Le.is) ∙ c.node.ensures.node) c.normal_inequality.ensures.gives

pub normal::normal_node-normal_call-requires : goal.normal::normal_node-normal_call-requires
normal::normal_node-normal_call-requires t c = let whole = subst (λ m. AllByRecursion (λ j. j < c.args.id) (numbers_in m)) c.in-Call.is c.node.ensures.lower in
    let e : c.deref-in-Call-2.result.now ≡ c.in-Call.ids.items = (c.deref-in-Call-2.ensures.value ∙ c.in_ok-ids-in-Call.ensures ∙ c.deref-in-Call.ensures.value) in
    (omega (arith, c.decreases, c.id.view_is), (omega (arith, c.requires.id, c.id.view_is), (subst (λ n. AllByRecursion (λ j. j < n) c.deref-in-Call-2.result.now) (sym c.id.view_is) (subst (AllByRecursion (λ j. j < c.args.id)) (sym e) whole), c.requires.forms)))

pub normal::normal_node-returns-in_ok-ids-in-Call-clause-grows : goal.normal::normal_node-returns-in_ok-ids-in-Call-clause-grows
normal::normal_node-returns-in_ok-ids-in-Call-clause-grows t c = c.normal_call.ensures.grows

pub normal::normal_node-returns-in_ok-ids-in-Call-clause-forms : goal.normal::normal_node-returns-in_ok-ids-in-Call-clause-forms
normal::normal_node-returns-in_ok-ids-in-Call-clause-forms t c = c.normal_call.ensures.forms

pub normal::normal_node-returns-in_ok-ids-in-Call-clause-gives : goal.normal::normal_node-returns-in_ok-ids-in-Call-clause-gives
normal::normal_node-returns-in_ok-ids-in-Call-clause-gives t c = let e : c.deref-in-Call-2.result.now ≡ c.in-Call.ids.items = (c.deref-in-Call-2.ensures.value ∙ c.in_ok-ids-in-Call.ensures ∙ c.deref-in-Call.ensures.value) in
    subst (λ u. GivesAt c.normal_call.new.terms c.normal_call.result (normal c.args.vars.now c.args.defs.now c.args.bound.now u)) (ap (λ is. call c.in-Call.f (trees_of (terms_at c.args.terms.now is))) e ∙ ap (tree_over (at c.args.terms.now)) (sym c.in-Call.is) ∙ c.node.ensures.node) c.normal_call.ensures.gives

pub normal::normal_node-normal_conjunction-requires : goal.normal::normal_node-normal_conjunction-requires
normal::normal_node-normal_conjunction-requires t c = let whole = subst (λ m. AllByRecursion (λ j. j < c.args.id) (numbers_in m)) c.in-And.is c.node.ensures.lower in
    let e : c.deref-in-And-2.result.now ≡ c.in-And.ids.items = (c.deref-in-And-2.ensures.value ∙ c.in_ok-ids-in-And.ensures ∙ c.deref-in-And.ensures.value) in
    (omega (arith, c.decreases, c.id.view_is), (omega (arith, c.requires.id, c.id.view_is), (subst (λ n. AllByRecursion (λ j. j < n) c.deref-in-And-2.result.now) (sym c.id.view_is) (subst (AllByRecursion (λ j. j < c.args.id)) (sym e) whole), c.requires.forms)))

pub normal::normal_node-returns-in_ok-ids-in-And-clause-grows : goal.normal::normal_node-returns-in_ok-ids-in-And-clause-grows
normal::normal_node-returns-in_ok-ids-in-And-clause-grows t c = c.normal_conjunction.ensures.grows

pub normal::normal_node-returns-in_ok-ids-in-And-clause-forms : goal.normal::normal_node-returns-in_ok-ids-in-And-clause-forms
normal::normal_node-returns-in_ok-ids-in-And-clause-forms t c = c.normal_conjunction.ensures.forms

pub normal::normal_node-returns-in_ok-ids-in-And-clause-gives : goal.normal::normal_node-returns-in_ok-ids-in-And-clause-gives
normal::normal_node-returns-in_ok-ids-in-And-clause-gives t c = let e : c.deref-in-And-2.result.now ≡ c.in-And.ids.items = (c.deref-in-And-2.ensures.value ∙ c.in_ok-ids-in-And.ensures ∙ c.deref-in-And.ensures.value) in
    subst (λ u. GivesAt c.normal_conjunction.new.terms c.normal_conjunction.result (normal c.args.vars.now c.args.defs.now c.args.bound.now u)) (ap (λ is. all (trees_of (terms_at c.args.terms.now is))) e ∙ ap (tree_over (at c.args.terms.now)) (sym c.in-And.is) ∙ c.node.ensures.node) c.normal_conjunction.ensures.gives

pub normal::normal_node-normal_disjunction-requires : goal.normal::normal_node-normal_disjunction-requires
normal::normal_node-normal_disjunction-requires t c = let whole = subst (λ m. AllByRecursion (λ j. j < c.args.id) (numbers_in m)) c.in-Or.is c.node.ensures.lower in
    let e : c.deref-in-Or-2.result.now ≡ c.in-Or.ids.items = (c.deref-in-Or-2.ensures.value ∙ c.in_ok-ids-in-Or.ensures ∙ c.deref-in-Or.ensures.value) in
    (omega (arith, c.decreases, c.id.view_is), (omega (arith, c.requires.id, c.id.view_is), (subst (λ n. AllByRecursion (λ j. j < n) c.deref-in-Or-2.result.now) (sym c.id.view_is) (subst (AllByRecursion (λ j. j < c.args.id)) (sym e) whole), c.requires.forms)))

pub normal::normal_node-returns-in_ok-ids-in-Or-clause-grows : goal.normal::normal_node-returns-in_ok-ids-in-Or-clause-grows
normal::normal_node-returns-in_ok-ids-in-Or-clause-grows t c = c.normal_disjunction.ensures.grows

pub normal::normal_node-returns-in_ok-ids-in-Or-clause-forms : goal.normal::normal_node-returns-in_ok-ids-in-Or-clause-forms
normal::normal_node-returns-in_ok-ids-in-Or-clause-forms t c = c.normal_disjunction.ensures.forms

pub normal::normal_node-returns-in_ok-ids-in-Or-clause-gives : goal.normal::normal_node-returns-in_ok-ids-in-Or-clause-gives
normal::normal_node-returns-in_ok-ids-in-Or-clause-gives t c = let e : c.deref-in-Or-2.result.now ≡ c.in-Or.ids.items = (c.deref-in-Or-2.ensures.value ∙ c.in_ok-ids-in-Or.ensures ∙ c.deref-in-Or.ensures.value) in
    subst (λ u. GivesAt c.normal_disjunction.new.terms c.normal_disjunction.result (normal c.args.vars.now c.args.defs.now c.args.bound.now u)) (ap (λ is. some (trees_of (terms_at c.args.terms.now is))) e ∙ ap (tree_over (at c.args.terms.now)) (sym c.in-Or.is) ∙ c.node.ensures.node) c.normal_disjunction.ensures.gives

pub normal::normal_node-normal_sum-requires : goal.normal::normal_node-normal_sum-requires
normal::normal_node-normal_sum-requires t c = let whole = subst (λ m. AllByRecursion (λ j. j < c.args.id) (numbers_in m)) c.in-Sum.is c.node.ensures.lower in
    let e : c.deref-in-Sum.result.now ≡ c.in-Sum.parts.items = c.deref-in-Sum.ensures.value ∙ c.in_ok-parts-in-Sum.ensures ∙ c.deref.ensures.value in
    (omega (arith, c.decreases, c.id.view_is), (omega (arith, c.requires.id, c.id.view_is), (subst (λ n. AtomsBelow n c.deref-in-Sum.result.now) (sym c.id.view_is) (subst (AtomsBelow c.args.id) (sym e) whole), c.requires.forms)))

pub normal::normal_node-returns-in_ok-parts-in-Sum-clause-grows : goal.normal::normal_node-returns-in_ok-parts-in-Sum-clause-grows
normal::normal_node-returns-in_ok-parts-in-Sum-clause-grows t c = c.normal_sum.ensures.grows

pub normal::normal_node-returns-in_ok-parts-in-Sum-clause-forms : goal.normal::normal_node-returns-in_ok-parts-in-Sum-clause-forms
normal::normal_node-returns-in_ok-parts-in-Sum-clause-forms t c = c.normal_sum.ensures.forms

pub normal::normal_node-returns-in_ok-lists-in-ForAll-clause-grows : goal.normal::normal_node-returns-in_ok-lists-in-ForAll-clause-grows
normal::normal_node-returns-in_ok-lists-in-ForAll-clause-grows t c = c.normal_for_all.ensures.grows

pub normal::normal_node-returns-in_ok-lists-in-ForAll-clause-forms : goal.normal::normal_node-returns-in_ok-lists-in-ForAll-clause-forms
normal::normal_node-returns-in_ok-lists-in-ForAll-clause-forms t c = c.normal_for_all.ensures.forms

pub normal::normal_node-returns-in_ok-lists-in-Exists-clause-grows : goal.normal::normal_node-returns-in_ok-lists-in-Exists-clause-grows
normal::normal_node-returns-in_ok-lists-in-Exists-clause-grows t c = c.normal_exists.ensures.grows

pub normal::normal_node-returns-in_ok-lists-in-Exists-clause-forms : goal.normal::normal_node-returns-in_ok-lists-in-Exists-clause-forms
normal::normal_node-returns-in_ok-lists-in-Exists-clause-forms t c = c.normal_exists.ensures.forms
