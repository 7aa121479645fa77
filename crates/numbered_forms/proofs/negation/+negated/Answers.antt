use Rattle.std.proofs.Common.{◌≡◌, ◌∙◌, ◌<◌, sym, ap, subst, ℕ, Vec, Some, option_map, map, length, arith, Ok}
use Rattle.std.specs.List.{AllByRecursion}
use Rattle.std.specs.declared.alloc.Global.{Global}
use Rattle.logic_core.specs.Tree.{negation, all, some, for_all, exists}
use Rattle.logic_core.specs.View.{trees_of, patterns_of}
use Rattle.logic_core.specs.Before.{before, tree_before}
use Rattle.logic_core.specs.Junction.{conjunction, disjunction, negated, negated_each}
use Rattle.logic_core.proofs.Refused.{gives_err}
use Rattle.term_bank.specs.Numbered.{at}
use Rattle.term_bank.specs.Node.{tree_over, numbers_in, in_lists}
use Rattle.term_bank.proofs.Numbers.{begins_then, begins_same, begins_length}
use Rattle.numbered_terms.specs.At.{IsAt, GivesAt}
use Rattle.numbered_terms.specs.Lists.{terms_at, lists_at}
use Rattle.numbered_terms.proofs.Items.{all_lower, item_below}
use Rattle.numbered_forms.proofs.Negations.{copies_below, copies_stay, none_before, next_below, negated_next, negated_none, negated_all, not_moved}
use Rattle.numbered_forms.proofs.FromForms.{one_made, one_unmade}
use Rattle.numbered_forms.proofs.negation.+negated.Goals as goal

pub negated-make-requires-in-ForAll : goal.negated-make-requires-in-ForAll
negated-make-requires-in-ForAll t c =
    let ts = c.args.terms.now in
    let whole = subst (λ m. AllByRecursion (λ j. j < c.args.id) (numbers_in m)) c.in-ForAll.is c.node.ensures.lower in
    let low = all_lower c.args.id (length ts) (in_lists c.in-ForAll.lists.items) (omega (arith, c.requires)) whole.1 in
    let same = c.in_ok-lists-in-ForAll.ensures ∙ ap (map (λ (w : Vec ℕ Global). w.items)) c.deref-in-ForAll-2.ensures.value in
    (c.in_ok-body-in-ForAll.ensures.gives.0, copies_below ts c.negated.new.terms c.in_ok-body-in-ForAll.ensures.grows c.in-ForAll.lists.items c.in_ok-lists-in-ForAll.lists.items same low)

pub negated-returns-in_ok-make-in-ForAll-clause-gives : goal.negated-returns-in_ok-make-in-ForAll-clause-gives
negated-returns-in_ok-make-in-ForAll-clause-gives t c =
    let ts = c.args.terms.now in
    let whole = subst (λ m. AllByRecursion (λ j. j < c.args.id) (numbers_in m)) c.in-ForAll.is c.node.ensures.lower in
    let low = all_lower c.args.id (length ts) (in_lists c.in-ForAll.lists.items) (omega (arith, c.requires)) whole.1 in
    let same = c.in_ok-lists-in-ForAll.ensures ∙ ap (map (λ (w : Vec ℕ Global). w.items)) c.deref-in-ForAll-2.ensures.value in
    let us = c.negated.new.terms in
    let lists = copies_stay ts us c.in_ok-body-in-ForAll.ensures.grows c.in-ForAll.lists.items c.in_ok-lists-in-ForAll.lists.items same low in
    let sorts = c.in_ok-sorts-in-ForAll.ensures ∙ c.deref-in-ForAll.ensures.value in
    let shape : at ts c.args.id ≡ for_all c.in-ForAll.sorts.items (patterns_of (lists_at ts c.in-ForAll.lists.items)) (at ts c.in-ForAll.body) = sym c.node.ensures.node ∙ ap (tree_over (at ts)) c.in-ForAll.is in
    let made = c.in_ok-make-in-ForAll.ensures.number in (
      made.0,
      ap negated shape
          ∙ ap (option_map (λ u. exists c.in-ForAll.sorts.items (patterns_of (lists_at ts c.in-ForAll.lists.items)) u)) c.in_ok-body-in-ForAll.ensures.gives.1
          ∙ ap Some ((λ k. exists (sym sorts k) (patterns_of (sym lists k)) (at us c.in_ok-body-in-ForAll.body)) ∙ sym made.1),
    )

pub negated-make-requires-in-Exists : goal.negated-make-requires-in-Exists
negated-make-requires-in-Exists t c =
    let ts = c.args.terms.now in
    let whole = subst (λ m. AllByRecursion (λ j. j < c.args.id) (numbers_in m)) c.in-Exists.is c.node.ensures.lower in
    let low = all_lower c.args.id (length ts) (in_lists c.in-Exists.lists.items) (omega (arith, c.requires)) whole.1 in
    let same = c.in_ok-lists-in-Exists.ensures ∙ ap (map (λ (w : Vec ℕ Global). w.items)) c.deref-in-Exists-2.ensures.value in
    (c.in_ok-body-in-Exists.ensures.gives.0, copies_below ts c.negated-in-Exists.new.terms c.in_ok-body-in-Exists.ensures.grows c.in-Exists.lists.items c.in_ok-lists-in-Exists.lists.items same low)

pub negated-returns-in_ok-make-in-Exists-clause-gives : goal.negated-returns-in_ok-make-in-Exists-clause-gives
negated-returns-in_ok-make-in-Exists-clause-gives t c =
    let ts = c.args.terms.now in
    let whole = subst (λ m. AllByRecursion (λ j. j < c.args.id) (numbers_in m)) c.in-Exists.is c.node.ensures.lower in
    let low = all_lower c.args.id (length ts) (in_lists c.in-Exists.lists.items) (omega (arith, c.requires)) whole.1 in
    let same = c.in_ok-lists-in-Exists.ensures ∙ ap (map (λ (w : Vec ℕ Global). w.items)) c.deref-in-Exists-2.ensures.value in
    let us = c.negated-in-Exists.new.terms in
    let lists = copies_stay ts us c.in_ok-body-in-Exists.ensures.grows c.in-Exists.lists.items c.in_ok-lists-in-Exists.lists.items same low in
    let sorts = c.in_ok-sorts-in-Exists.ensures ∙ c.deref-in-Exists.ensures.value in
    let shape : at ts c.args.id ≡ exists c.in-Exists.sorts.items (patterns_of (lists_at ts c.in-Exists.lists.items)) (at ts c.in-Exists.body) = sym c.node.ensures.node ∙ ap (tree_over (at ts)) c.in-Exists.is in
    let made = c.in_ok-make-in-Exists.ensures.number in (
      made.0,
      ap negated shape
          ∙ ap (option_map (λ u. for_all c.in-Exists.sorts.items (patterns_of (lists_at ts c.in-Exists.lists.items)) u)) c.in_ok-body-in-Exists.ensures.gives.1
          ∙ ap Some ((λ k. for_all (sym sorts k) (patterns_of (sym lists k)) (at us c.in_ok-body-in-Exists.body)) ∙ sym made.1),
    )

pub negated_each-loop-id-init : goal.negated_each-loop-id-init
negated_each-loop-id-init t c = let whole = negated_each (trees_of (terms_at c.args.terms.now c.args.ids.now)) in
    record {
      made = ap (λ ws. option_map (before tree_before (terms_at c.args.terms.now ws)) whole) c.new-parts.ensures.items ∙ none_before whole;
      within = rw c.new-parts.ensures.items tt;
      grows = begins_same c.args.terms.now;
    }

pub negated_each-loop-id-preserved : goal.negated_each-loop-id-preserved
negated_each-loop-id-preserved t c =
    let ts = c.args.terms.now in let us = c.loop-id.terms in let vs = c.negated.new.terms in
    let b = c.loop-id.invariant.grows in let d = c.in_ok-part.ensures.grows in
    let g = c.in_ok-part.ensures.gives in
    let x = c.id-item.result in
    let low : x < c.args.below = item_below c.args.below c.args.ids.now c.loop-id.id-index x c.requires.ids c.loop-id-test.true c.id-item.is in
    record {
      made = negated_next ts us vs b d c.loop-id.parts.items c.push.new.self.items c.in_ok-part.part c.loop-id.invariant.within c.in_ok-push.ensures.items c.args.ids.now c.loop-id.id-index x
          (negated_each (trees_of (terms_at ts c.args.ids.now))) c.loop-id-test.true c.id-item.is (omega (arith, low, c.requires.below)) g.1 c.loop-id.invariant.made;
      within = next_below ts us vs b d c.loop-id.parts.items c.push.new.self.items c.in_ok-part.part c.loop-id.invariant.within c.in_ok-push.ensures.items g.0;
      grows = begins_then ts us vs b d;
    }

pub negated_each-returns-clause-gives : goal.negated_each-returns-clause-gives
negated_each-returns-clause-gives t c = negated_all c.args.terms.now c.loop-id.terms c.loop-id.parts.items c.args.ids.now c.loop-id.id-index (negated_each (trees_of (terms_at c.args.terms.now c.args.ids.now))) c.loop-id-test.false c.loop-id.invariant.made

pub negated-negated_each-requires : goal.negated-negated_each-requires
negated-negated_each-requires t c = let whole = subst (λ m. AllByRecursion (λ j. j < c.args.id) (numbers_in m)) c.in-And.is c.node.ensures.lower in
    let e : c.deref-in-And.result.now ≡ c.in-And.parts.items = c.deref-in-And.ensures.value ∙ c.in_ok-parts-in-And.ensures ∙ c.deref.ensures.value in
    (omega (arith, c.decreases, c.id.view_is), (omega (arith, c.requires, c.id.view_is), subst (λ n. AllByRecursion (λ j. j < n) c.deref-in-And.result.now) (sym c.id.view_is) (subst (AllByRecursion (λ j. j < c.args.id)) (sym e) whole)))

pub negated-junction-requires : goal.negated-junction-requires
negated-junction-requires t c = subst (AllByRecursion (λ j. j < length c.negated_each.new.terms)) (sym c.deref-in-And-2.ensures.value) c.in_ok-made-in-And.ensures.within

pub negated-returns-in_err-made-in-And-clause-grows : goal.negated-returns-in_err-made-in-And-clause-grows
negated-returns-in_err-made-in-And-clause-grows t c = c.negated_each.ensures.grows

pub negated-returns-in_err-made-in-And-clause-gives : goal.negated-returns-in_err-made-in-And-clause-gives
negated-returns-in_err-made-in-And-clause-gives t c = let e : c.deref-in-And.result.now ≡ c.in-And.parts.items = c.deref-in-And.ensures.value ∙ c.in_ok-parts-in-And.ensures ∙ c.deref.ensures.value in
    let shape : all (trees_of (terms_at c.args.terms.now c.deref-in-And.result.now)) ≡ at c.args.terms.now c.args.id = ap (λ is. all (trees_of (terms_at c.args.terms.now is))) e ∙ ap (tree_over (at c.args.terms.now)) (sym c.in-And.is) ∙ c.node.ensures.node in
    subst (λ u. GivesAt c.negated_each.new.terms c.from_residual-in_err-made-in-And.result (negated u)) shape (one_unmade c.negated_each.new.terms (negated_each (trees_of (terms_at c.args.terms.now c.deref-in-And.result.now))) c.from_residual-in_err-made-in-And.result c.in_err-made-in-And.field-0.0 disjunction c.from_residual-in_err-made-in-And.ensures.1 c.in_err-made-in-And.ensures.gives)

pub negated-returns-in_err-junction-in-And-clause-grows : goal.negated-returns-in_err-junction-in-And-clause-grows
negated-returns-in_err-junction-in-And-clause-grows t c = begins_then c.args.terms.now c.negated_each.new.terms c.junction.new.terms c.in_ok-made-in-And.ensures.grows c.junction.ensures.grows

pub negated-returns-in_ok-junction-in-And-clause-grows : goal.negated-returns-in_ok-junction-in-And-clause-grows
negated-returns-in_ok-junction-in-And-clause-grows t c = begins_then c.args.terms.now c.negated_each.new.terms c.junction.new.terms c.in_ok-made-in-And.ensures.grows c.junction.ensures.grows

pub negated-returns-in_ok-junction-in-And-clause-gives : goal.negated-returns-in_ok-junction-in-And-clause-gives
negated-returns-in_ok-junction-in-And-clause-gives t c = let e : c.deref-in-And.result.now ≡ c.in-And.parts.items = c.deref-in-And.ensures.value ∙ c.in_ok-parts-in-And.ensures ∙ c.deref.ensures.value in
    let shape : all (trees_of (terms_at c.args.terms.now c.deref-in-And.result.now)) ≡ at c.args.terms.now c.args.id = ap (λ is. all (trees_of (terms_at c.args.terms.now is))) e ∙ ap (tree_over (at c.args.terms.now)) (sym c.in-And.is) ∙ c.node.ensures.node in
    subst (λ u. GivesAt c.junction.new.terms (Ok c.in_ok-junction-in-And.field-0) (negated u)) shape (one_made c.junction.new.terms (negated_each (trees_of (terms_at c.args.terms.now c.deref-in-And.result.now))) c.in_ok-junction-in-And.field-0 (trees_of (terms_at c.negated_each.new.terms c.in_ok-made-in-And.made.items)) disjunction c.in_ok-made-in-And.ensures.gives (subst (λ is. IsAt c.junction.new.terms c.in_ok-junction-in-And.field-0 (disjunction (trees_of (terms_at c.negated_each.new.terms is)))) c.deref-in-And-2.ensures.value c.in_ok-junction-in-And.ensures.gives))

pub negated-negated_each-requires-in-Or : goal.negated-negated_each-requires-in-Or
negated-negated_each-requires-in-Or t c = let whole = subst (λ m. AllByRecursion (λ j. j < c.args.id) (numbers_in m)) c.in-Or.is c.node.ensures.lower in
    let e : c.deref-in-Or-2.result.now ≡ c.in-Or.parts.items = c.deref-in-Or-2.ensures.value ∙ c.in_ok-parts-in-Or.ensures ∙ c.deref-in-Or.ensures.value in
    (omega (arith, c.decreases, c.id-in-Or.view_is), (omega (arith, c.requires, c.id-in-Or.view_is), subst (λ n. AllByRecursion (λ j. j < n) c.deref-in-Or-2.result.now) (sym c.id-in-Or.view_is) (subst (AllByRecursion (λ j. j < c.args.id)) (sym e) whole)))

pub negated-junction-requires-in-Or : goal.negated-junction-requires-in-Or
negated-junction-requires-in-Or t c = subst (AllByRecursion (λ j. j < length c.negated_each-in-Or.new.terms)) (sym c.deref-in-Or-3.ensures.value) c.in_ok-made-in-Or.ensures.within

pub negated-returns-in_err-made-in-Or-clause-grows : goal.negated-returns-in_err-made-in-Or-clause-grows
negated-returns-in_err-made-in-Or-clause-grows t c = c.negated_each-in-Or.ensures.grows

pub negated-returns-in_err-made-in-Or-clause-gives : goal.negated-returns-in_err-made-in-Or-clause-gives
negated-returns-in_err-made-in-Or-clause-gives t c = let e : c.deref-in-Or-2.result.now ≡ c.in-Or.parts.items = c.deref-in-Or-2.ensures.value ∙ c.in_ok-parts-in-Or.ensures ∙ c.deref-in-Or.ensures.value in
    let shape : some (trees_of (terms_at c.args.terms.now c.deref-in-Or-2.result.now)) ≡ at c.args.terms.now c.args.id = ap (λ is. some (trees_of (terms_at c.args.terms.now is))) e ∙ ap (tree_over (at c.args.terms.now)) (sym c.in-Or.is) ∙ c.node.ensures.node in
    subst (λ u. GivesAt c.negated_each-in-Or.new.terms c.from_residual-in_err-made-in-Or.result (negated u)) shape (one_unmade c.negated_each-in-Or.new.terms (negated_each (trees_of (terms_at c.args.terms.now c.deref-in-Or-2.result.now))) c.from_residual-in_err-made-in-Or.result c.in_err-made-in-Or.field-0.0 conjunction c.from_residual-in_err-made-in-Or.ensures.1 c.in_err-made-in-Or.ensures.gives)

pub negated-returns-in_err-junction-in-Or-clause-grows : goal.negated-returns-in_err-junction-in-Or-clause-grows
negated-returns-in_err-junction-in-Or-clause-grows t c = begins_then c.args.terms.now c.negated_each-in-Or.new.terms c.junction-in-Or.new.terms c.in_ok-made-in-Or.ensures.grows c.junction-in-Or.ensures.grows

pub negated-returns-in_ok-junction-in-Or-clause-grows : goal.negated-returns-in_ok-junction-in-Or-clause-grows
negated-returns-in_ok-junction-in-Or-clause-grows t c = begins_then c.args.terms.now c.negated_each-in-Or.new.terms c.junction-in-Or.new.terms c.in_ok-made-in-Or.ensures.grows c.junction-in-Or.ensures.grows

pub negated-returns-in_ok-junction-in-Or-clause-gives : goal.negated-returns-in_ok-junction-in-Or-clause-gives
negated-returns-in_ok-junction-in-Or-clause-gives t c = let e : c.deref-in-Or-2.result.now ≡ c.in-Or.parts.items = c.deref-in-Or-2.ensures.value ∙ c.in_ok-parts-in-Or.ensures ∙ c.deref-in-Or.ensures.value in
    let shape : some (trees_of (terms_at c.args.terms.now c.deref-in-Or-2.result.now)) ≡ at c.args.terms.now c.args.id = ap (λ is. some (trees_of (terms_at c.args.terms.now is))) e ∙ ap (tree_over (at c.args.terms.now)) (sym c.in-Or.is) ∙ c.node.ensures.node in
    subst (λ u. GivesAt c.junction-in-Or.new.terms (Ok c.in_ok-junction-in-Or.field-0) (negated u)) shape (one_made c.junction-in-Or.new.terms (negated_each (trees_of (terms_at c.args.terms.now c.deref-in-Or-2.result.now))) c.in_ok-junction-in-Or.field-0 (trees_of (terms_at c.negated_each-in-Or.new.terms c.in_ok-made-in-Or.made.items)) conjunction c.in_ok-made-in-Or.ensures.gives (subst (λ is. IsAt c.junction-in-Or.new.terms c.in_ok-junction-in-Or.field-0 (conjunction (trees_of (terms_at c.negated_each-in-Or.new.terms is)))) c.deref-in-Or-3.ensures.value c.in_ok-junction-in-Or.ensures.gives))

pub negated-returns-in-Not-clause-gives : goal.negated-returns-in-Not-clause-gives
negated-returns-in-Not-clause-gives t c = let whole = subst (λ m. AllByRecursion (λ j. j < c.args.id) (numbers_in m)) c.in-Not.is c.node.ensures.lower in
    (omega (arith, whole.0, c.requires), ap negated (sym c.node.ensures.node ∙ ap (tree_over (at c.args.terms.now)) c.in-Not.is))

pub negated-negated_inequality-requires-clause-low : goal.negated-negated_inequality-requires-clause-low
negated-negated_inequality-requires-clause-low t c = let whole = subst (λ m. AllByRecursion (λ j. j < c.args.id) (numbers_in m)) c.in-Le.is c.node.ensures.lower in omega (arith, whole.0, c.requires)

pub negated-negated_inequality-requires-clause-high : goal.negated-negated_inequality-requires-clause-high
negated-negated_inequality-requires-clause-high t c = let whole = subst (λ m. AllByRecursion (λ j. j < c.args.id) (numbers_in m)) c.in-Le.is c.node.ensures.lower in omega (arith, whole.1.0, c.requires)

pub negated-negated_inequality-requires-clause-is : goal.negated-negated_inequality-requires-clause-is
negated-negated_inequality-requires-clause-is t c = sym c.node.ensures.node ∙ ap (tree_over (at c.args.terms.now)) c.in-Le.is

pub negated-returns-in-Le-clause-grows : goal.negated-returns-in-Le-clause-grows
negated-returns-in-Le-clause-grows t c = c.negated_inequality.ensures.grows

pub negated-returns-in-Le-clause-gives : goal.negated-returns-in-Le-clause-gives
negated-returns-in-Le-clause-gives t c = c.negated_inequality.ensures.gives

pub negated-negated-requires : goal.negated-negated-requires
negated-negated-requires t c = let whole = subst (λ m. AllByRecursion (λ j. j < c.args.id) (numbers_in m)) c.in-ForAll.is c.node.ensures.lower in (omega (arith, c.decreases, whole.0), omega (arith, c.requires, whole.0))

pub negated-returns-in_err-body-in-ForAll-clause-grows : goal.negated-returns-in_err-body-in-ForAll-clause-grows
negated-returns-in_err-body-in-ForAll-clause-grows t c = c.negated.ensures.grows

pub negated-returns-in_err-body-in-ForAll-clause-gives : goal.negated-returns-in_err-body-in-ForAll-clause-gives
negated-returns-in_err-body-in-ForAll-clause-gives t c = let shape : for_all c.in-ForAll.sorts.items (patterns_of (lists_at c.args.terms.now c.in-ForAll.lists.items)) (at c.args.terms.now c.in-ForAll.body) ≡ at c.args.terms.now c.args.id = ap (tree_over (at c.args.terms.now)) (sym c.in-ForAll.is) ∙ c.node.ensures.node in
    subst (λ u. GivesAt c.negated.new.terms c.from_residual-in_err-body-in-ForAll.result (negated u)) shape (one_unmade c.negated.new.terms (negated (at c.args.terms.now c.in-ForAll.body)) c.from_residual-in_err-body-in-ForAll.result c.in_err-body-in-ForAll.field-0.0 (λ u. exists c.in-ForAll.sorts.items (patterns_of (lists_at c.args.terms.now c.in-ForAll.lists.items)) u) c.from_residual-in_err-body-in-ForAll.ensures.1 c.in_err-body-in-ForAll.ensures.gives)

pub negated-returns-in_err-make-in-ForAll-clause-grows : goal.negated-returns-in_err-make-in-ForAll-clause-grows
negated-returns-in_err-make-in-ForAll-clause-grows t c = begins_then c.args.terms.now c.negated.new.terms c.make-in-ForAll.new.self c.in_ok-body-in-ForAll.ensures.grows c.make-in-ForAll.ensures.grows

pub negated-returns-in_ok-make-in-ForAll-clause-grows : goal.negated-returns-in_ok-make-in-ForAll-clause-grows
negated-returns-in_ok-make-in-ForAll-clause-grows t c = begins_then c.args.terms.now c.negated.new.terms c.make-in-ForAll.new.self c.in_ok-body-in-ForAll.ensures.grows c.make-in-ForAll.ensures.grows

pub negated-negated-requires-in-Exists : goal.negated-negated-requires-in-Exists
negated-negated-requires-in-Exists t c = let whole = subst (λ m. AllByRecursion (λ j. j < c.args.id) (numbers_in m)) c.in-Exists.is c.node.ensures.lower in (omega (arith, c.decreases, whole.0), omega (arith, c.requires, whole.0))

pub negated-returns-in_err-body-in-Exists-clause-grows : goal.negated-returns-in_err-body-in-Exists-clause-grows
negated-returns-in_err-body-in-Exists-clause-grows t c = c.negated-in-Exists.ensures.grows

pub negated-returns-in_err-body-in-Exists-clause-gives : goal.negated-returns-in_err-body-in-Exists-clause-gives
negated-returns-in_err-body-in-Exists-clause-gives t c = let shape : exists c.in-Exists.sorts.items (patterns_of (lists_at c.args.terms.now c.in-Exists.lists.items)) (at c.args.terms.now c.in-Exists.body) ≡ at c.args.terms.now c.args.id = ap (tree_over (at c.args.terms.now)) (sym c.in-Exists.is) ∙ c.node.ensures.node in
    subst (λ u. GivesAt c.negated-in-Exists.new.terms c.from_residual-in_err-body-in-Exists.result (negated u)) shape (one_unmade c.negated-in-Exists.new.terms (negated (at c.args.terms.now c.in-Exists.body)) c.from_residual-in_err-body-in-Exists.result c.in_err-body-in-Exists.field-0.0 (λ u. for_all c.in-Exists.sorts.items (patterns_of (lists_at c.args.terms.now c.in-Exists.lists.items)) u) c.from_residual-in_err-body-in-Exists.ensures.1 c.in_err-body-in-Exists.ensures.gives)

pub negated-returns-in_err-make-in-Exists-clause-grows : goal.negated-returns-in_err-make-in-Exists-clause-grows
negated-returns-in_err-make-in-Exists-clause-grows t c = begins_then c.args.terms.now c.negated-in-Exists.new.terms c.make-in-Exists.new.self c.in_ok-body-in-Exists.ensures.grows c.make-in-Exists.ensures.grows

pub negated-returns-in_ok-make-in-Exists-clause-grows : goal.negated-returns-in_ok-make-in-Exists-clause-grows
negated-returns-in_ok-make-in-Exists-clause-grows t c = begins_then c.args.terms.now c.negated-in-Exists.new.terms c.make-in-Exists.new.self c.in_ok-body-in-Exists.ensures.grows c.make-in-Exists.ensures.grows

pub negated_each-negated-requires : goal.negated_each-negated-requires
negated_each-negated-requires t c = let low : c.id-item.result < c.args.below = item_below c.args.below c.args.ids.now c.loop-id.id-index c.id-item.result c.requires.ids c.loop-id-test.true c.id-item.is in
    (omega (arith, c.decreases, low), omega (arith, low, c.requires.below, begins_length c.args.terms.now c.loop-id.terms c.loop-id.invariant.grows))

pub negated_each-returns-in_err-part-clause-grows : goal.negated_each-returns-in_err-part-clause-grows
negated_each-returns-in_err-part-clause-grows t c = begins_then c.args.terms.now c.loop-id.terms c.negated.new.terms c.loop-id.invariant.grows c.negated.ensures.grows

pub negated_each-returns-in_err-part-clause-gives : goal.negated_each-returns-in_err-part-clause-gives
negated_each-returns-in_err-part-clause-gives t c = let low : c.id-item.result < c.args.below = item_below c.args.below c.args.ids.now c.loop-id.id-index c.id-item.result c.requires.ids c.loop-id-test.true c.id-item.is in
    let within : c.id-item.result < length c.args.terms.now = omega (arith, low, c.requires.below) in
    gives_err (λ (v : Vec ℕ Global). trees_of (terms_at c.negated.new.terms v.items)) c.from_residual.result c.in_err-part.field-0.0 (negated_each (trees_of (terms_at c.args.terms.now c.args.ids.now))) c.from_residual.ensures.1 (λ wide.
    negated_none c.args.terms.now c.loop-id.terms c.loop-id.invariant.grows c.loop-id.parts.items c.args.ids.now c.loop-id.id-index c.id-item.result (negated_each (trees_of (terms_at c.args.terms.now c.args.ids.now))) c.loop-id-test.true c.id-item.is within (c.in_err-part.ensures.gives wide) c.loop-id.invariant.made)

pub negated_each-returns-in_err-push-clause-grows : goal.negated_each-returns-in_err-push-clause-grows
negated_each-returns-in_err-push-clause-grows t c = begins_then c.args.terms.now c.loop-id.terms c.negated.new.terms c.loop-id.invariant.grows c.in_ok-part.ensures.grows

pub negated-make-requires-in_default : goal.negated-make-requires-in_default
negated-make-requires-in_default t c = (c.requires, tt)

pub negated-returns-in_ok-make-in_default-clause-gives : goal.negated-returns-in_ok-make-in_default-clause-gives
negated-returns-in_ok-make-in_default-clause-gives t c =
    let is : negated (at c.args.terms.now c.args.id) ≡ Some (negation (at c.args.terms.now c.args.id)) =
    subst (λ t. negated t ≡ Some (negation t)) c.node.ensures.node (not_moved (at c.args.terms.now) c.node.result.now c.in_default.not-Truth c.in_default.not-Not c.in_default.not-And c.in_default.not-Or c.in_default.not-Le c.in_default.not-ForAll c.in_default.not-Exists) in
    let made = c.in_ok-make-in_default.ensures.number in (made.0, is ∙ ap Some (sym made.1))
