use Rattle.std.proofs.Common.{◌∙◌, ◌<◌, sym, subst, arith, take}
use Rattle.std.specs.List.{AllByRecursion}
use Rattle.std.proofs.lemmas.Result.{on_ok_weaker}
use Rattle.std.proofs.lemmas.Bool.{eqb-false}
use Rattle.logic_core.specs.Tree.{Tree}
use Rattle.logic_core.specs.Same.{same_term}
use Rattle.logic_core.specs.Subterm.{replaced}
use Rattle.term_bank.specs.Numbered.{at}
use Rattle.term_bank.specs.Node.{numbers_in}
use Rattle.term_bank.specs.Table.{IsNodeAt}
use Rattle.term_bank.specs.declared.node.Node.{Node}
use Rattle.term_bank.proofs.Numbers.{begins_then, begins_same, begins_length, begins_at}
use Rattle.numbered_terms.specs.Renumbered.{IsFound, AreFound}
use Rattle.numbered_terms.proofs.Items.{item_below, one_more, all_done}
use Rattle.numbered_terms.proofs.Walking.{still_below, there, each_later, noted_right, noted_covers, noted_found, covers_then, same_numbers, node_before}
use Rattle.numbered_terms.proofs.Replacing.{other_term, as_before, lower_found, single_found, own_number}
use Rattle.numbered_terms.proofs.replace.+replace.Goals as goal

pub replace_in-returns-then-is_lower-clause-found : goal.replace_in-returns-then-is_lower-clause-found
replace_in-returns-then-is_lower-clause-found t c = lower_found c.args.terms.now c.args.found.now.entries c.args.old c.args.new c.args.id c.are_stored.ensures c.requires.old c.requires.id (sym c.is_lower.ensures ∙ c.if-is_lower.true) c.requires.right

pub replace_in-returns-then-is_there-clause-found : goal.replace_in-returns-then-is_there-clause-found
replace_in-returns-then-is_there-clause-found t c = there (replaced (at c.args.terms.now c.args.old) (at c.args.terms.now c.args.new)) c.args.terms.now c.args.found.now.entries c.args.id c.requires.right (sym c.is_there.ensures ∙ c.if-is_there.true)

pub replace_node-returns-then-is_equal-clause-right : goal.replace_node-returns-then-is_equal-clause-right
replace_node-returns-then-is_equal-clause-right t c = let ts = c.args.terms.now in
    on_ok_weaker c.note.result (λ e. noted_right (replaced (at ts c.args.old) (at ts c.args.new)) ts c.args.found.now.entries c.note.new.found.entries c.args.id c.args.new e c.requires.right c.requires.id
    (own_number ts c.args.old c.args.new c.args.id c.requires.new (sym c.is_equal.ensures ∙ c.if-is_equal.true))) c.note.ensures.ok

pub replace_node-returns-then-is_equal-clause-covers : goal.replace_node-returns-then-is_equal-clause-covers
replace_node-returns-then-is_equal-clause-covers t c = let ts = c.args.terms.now in
    on_ok_weaker c.note.result (λ e. noted_covers (replaced (at ts c.args.old) (at ts c.args.new)) ts c.args.found.now.entries c.note.new.found.entries c.args.id c.args.new e c.requires.right c.requires.id
    (own_number ts c.args.old c.args.new c.args.id c.requires.new (sym c.is_equal.ensures ∙ c.if-is_equal.true))) c.note.ensures.ok

pub replace_node-returns-then-is_equal-clause-found : goal.replace_node-returns-then-is_equal-clause-found
replace_node-returns-then-is_equal-clause-found t c = let ts = c.args.terms.now in
    on_ok_weaker c.note.result (λ e. noted_found (replaced (at ts c.args.old) (at ts c.args.new)) ts c.args.found.now.entries c.note.new.found.entries c.args.id c.args.new e c.requires.right c.requires.id
    (own_number ts c.args.old c.args.new c.args.id c.requires.new (sym c.is_equal.ensures ∙ c.if-is_equal.true))) c.note.ensures.ok

pub replace_node-returns-then-are_none-clause-found : goal.replace_node-returns-then-are_none-clause-found
replace_node-returns-then-are_none-clause-found t c =
    let ts = c.args.terms.now in let h = sym c.is_equal.ensures ∙ c.if-is_equal.false in
    single_found ts c.args.found.now.entries c.args.old c.args.new c.args.id c.node.result.now c.requires.id (c.node.ensures.node, c.node.ensures.lower)
    (other_term ts c.args.old c.args.id c.are_stored.ensures c.requires.old c.requires.id (λ e. eqb-false c.args.id c.args.old h (sym e)))
    (sym (c.deref.ensures.value ∙ c.in_ok-parts.ensures) ∙ c.are_none.ensures c.if-are_none.true) c.requires.right

pub replace_node-replace_each-requires : goal.replace_node-replace_each-requires
replace_node-replace_each-requires t c = (
  omega (arith, c.decreases, c.id.view_is),
  (
    c.requires.old,
    (
      c.requires.new,
      (
        omega (arith, c.requires.id, c.id.view_is),
        (
          subst (λ n. AllByRecursion (λ j. j < n) c.deref-2.result.now) (sym c.id.view_is)
              (subst (AllByRecursion (λ j. j < c.args.id)) (sym (c.deref-2.ensures.value ∙ c.in_ok-parts.ensures)) c.node.ensures.lower),
          c.requires.right,
        ),
      ),
    ),
  ),
)

pub replace_each-loop-id-init : goal.replace_each-loop-id-init
replace_each-loop-id-init t c = record { grows = begins_same c.args.terms.now; right = c.requires.right; covers = λ i h. h; found = tt }

pub replace_each-replace_in-requires : goal.replace_each-replace_in-requires
replace_each-replace_in-requires t c =
    let ts = c.args.terms.now in let us = c.loop-id.terms in let b = c.loop-id.invariant.grows in
    let low = item_below c.args.below c.args.ids.now c.loop-id.id-index c.id-item.result c.requires.lower c.loop-id-test.true c.id-item.is in (
      omega (arith, c.decreases, low),
      (
        still_below ts us c.args.old b c.requires.old,
        (
          still_below ts us c.args.new b c.requires.new,
          (omega (arith, low, c.requires.below, begins_length ts us b), subst (λ f. AreFound f us c.loop-id.found.entries) (sym (as_before ts us c.args.old c.args.new b c.requires.old c.requires.new)) c.loop-id.invariant.right),
        ),
      ),
    )

pub replace_each-returns-in_err-replace_in-clause-grows : goal.replace_each-returns-in_err-replace_in-clause-grows
replace_each-returns-in_err-replace_in-clause-grows t c = begins_then c.args.terms.now c.loop-id.terms c.replace_in.new.terms c.loop-id.invariant.grows c.replace_in.ensures.grows

pub replace_each-loop-id-preserved : goal.replace_each-loop-id-preserved
replace_each-loop-id-preserved t c =
    let ts = c.args.terms.now in let us = c.loop-id.terms in let vs = c.replace_in.new.terms in
    let found = c.loop-id.found.entries in let more = c.replace_in.new.found.entries in
    let b = c.loop-id.invariant.grows in let d = c.replace_in.ensures.grows in
    let R : Tree → Tree = replaced (at ts c.args.old) (at ts c.args.new) in
    let e = as_before ts us c.args.old c.args.new b c.requires.old c.requires.new in
    let right = subst (λ f. AreFound f vs more) e c.in_ok-replace_in.ensures.right in
    let covers = c.in_ok-replace_in.ensures.covers in
    record {
      grows = begins_then ts us vs b d;
      right = right;
      covers = covers_then c.args.found.now.entries found more c.loop-id.invariant.covers covers;
      found = one_more (IsFound R vs more) c.args.ids.now c.loop-id.id-index c.id-item.result c.loop-id-test.true c.id-item.is
          (each_later R us vs found more (take c.loop-id.id-index c.args.ids.now) d right covers c.loop-id.invariant.found)
          (subst (λ f. IsFound f vs more c.id-item.result) e c.in_ok-replace_in.ensures.found);
    }

pub replace_each-returns-clause-found : goal.replace_each-returns-clause-found
replace_each-returns-clause-found t c = all_done (IsFound (replaced (at c.args.terms.now c.args.old) (at c.args.terms.now c.args.new)) c.loop-id.terms c.loop-id.found.entries) c.args.ids.now c.loop-id.id-index (omega (arith, c.loop-id-test.false)) c.loop-id.invariant.found

pub replace_node-replace_whole-requires-clause-old : goal.replace_node-replace_whole-requires-clause-old
replace_node-replace_whole-requires-clause-old t c = still_below c.args.terms.now c.replace_each.new.terms c.args.old c.replace_each.ensures.grows c.requires.old

pub replace_node-replace_whole-requires-clause-new : goal.replace_node-replace_whole-requires-clause-new
replace_node-replace_whole-requires-clause-new t c = still_below c.args.terms.now c.replace_each.new.terms c.args.new c.replace_each.ensures.grows c.requires.new

pub replace_node-replace_whole-requires-clause-id : goal.replace_node-replace_whole-requires-clause-id
replace_node-replace_whole-requires-clause-id t c = still_below c.args.terms.now c.replace_each.new.terms c.args.id c.replace_each.ensures.grows c.requires.id

pub replace_node-replace_whole-requires-clause-other : goal.replace_node-replace_whole-requires-clause-other
replace_node-replace_whole-requires-clause-other t c =
    let ts = c.args.terms.now in let us = c.replace_each.new.terms in let b = c.replace_each.ensures.grows in
    let h = sym c.is_equal.ensures ∙ c.if-is_equal.false in
    (λ k. same_term (begins_at ts us c.args.old b c.requires.old k) (begins_at ts us c.args.id b c.requires.id k))
    ∙ other_term ts c.args.old c.args.id c.are_stored.ensures c.requires.old c.requires.id (λ e. eqb-false c.args.id c.args.old h (sym e))

pub replace_node-replace_whole-requires-clause-right : goal.replace_node-replace_whole-requires-clause-right
replace_node-replace_whole-requires-clause-right t c =
    let ts = c.args.terms.now in let us = c.replace_each.new.terms in
    subst (λ f. AreFound f us c.replace_each.new.found.entries) (sym (as_before ts us c.args.old c.args.new c.replace_each.ensures.grows c.requires.old c.requires.new)) c.in_ok-replace_each.ensures.right

pub replace_node-replace_whole-requires-clause-parts : goal.replace_node-replace_whole-requires-clause-parts
replace_node-replace_whole-requires-clause-parts t c =
    let ts = c.args.terms.now in let us = c.replace_each.new.terms in let b = c.replace_each.ensures.grows in
    let more = c.replace_each.new.found.entries in
    let R : Tree → Tree = replaced (at ts c.args.old) (at ts c.args.new) in
    let all : AllByRecursion (IsFound R us more) (numbers_in c.node.result.now) = subst (AllByRecursion (IsFound R us more)) (c.deref-2.ensures.value ∙ c.in_ok-parts.ensures) c.in_ok-replace_each.ensures.found in
    subst (λ f. (m : Node) → IsNodeAt us c.args.id m → AllByRecursion (IsFound f us more) (numbers_in m)) (sym (as_before ts us c.args.old c.args.new b c.requires.old c.requires.new))
    (λ m is. same_numbers (IsFound R us more) ts c.args.id c.node.result.now m c.are_stored.ensures c.requires.id (c.node.ensures.node, c.node.ensures.lower) (node_before ts us c.args.id m b c.requires.id is) all)

pub replace_node-returns-clause-grows : goal.replace_node-returns-clause-grows
replace_node-returns-clause-grows t c = begins_then c.args.terms.now c.replace_each.new.terms c.replace_whole.new.terms c.replace_each.ensures.grows c.replace_whole.ensures.grows

pub replace_node-returns-clause-right : goal.replace_node-returns-clause-right
replace_node-returns-clause-right t c =
    let e = as_before c.args.terms.now c.replace_each.new.terms c.args.old c.args.new c.replace_each.ensures.grows c.requires.old c.requires.new in
    on_ok_weaker c.replace_whole.result (λ r. subst (λ f. AreFound f c.replace_whole.new.terms c.replace_whole.new.found.entries) e r) c.replace_whole.ensures.right

pub replace_node-returns-clause-covers : goal.replace_node-returns-clause-covers
replace_node-returns-clause-covers t c = on_ok_weaker c.replace_whole.result (λ k. covers_then c.args.found.now.entries c.replace_each.new.found.entries c.replace_whole.new.found.entries c.in_ok-replace_each.ensures.covers k) c.replace_whole.ensures.covers

pub replace_node-returns-clause-found : goal.replace_node-returns-clause-found
replace_node-returns-clause-found t c =
    let e = as_before c.args.terms.now c.replace_each.new.terms c.args.old c.args.new c.replace_each.ensures.grows c.requires.old c.requires.new in
    on_ok_weaker c.replace_whole.result (λ r. subst (λ f. IsFound f c.replace_whole.new.terms c.replace_whole.new.found.entries c.args.id) e r) c.replace_whole.ensures.found

pub replace_in-returns-then-is_lower-clause-grows : goal.replace_in-returns-then-is_lower-clause-grows
replace_in-returns-then-is_lower-clause-grows t c = begins_same c.args.terms.now

pub replace_in-returns-then-is_there-clause-grows : goal.replace_in-returns-then-is_there-clause-grows
replace_in-returns-then-is_there-clause-grows t c = begins_same c.args.terms.now

pub replace_node-returns-then-is_equal-clause-grows : goal.replace_node-returns-then-is_equal-clause-grows
replace_node-returns-then-is_equal-clause-grows t c = begins_same c.args.terms.now

pub replace_node-returns-then-are_none-clause-grows : goal.replace_node-returns-then-are_none-clause-grows
replace_node-returns-then-are_none-clause-grows t c = begins_same c.args.terms.now

pub replace_node-returns-in_err-parts-clause-grows : goal.replace_node-returns-in_err-parts-clause-grows
replace_node-returns-in_err-parts-clause-grows t c = begins_same c.args.terms.now

pub replace_node-returns-in_err-replace_each-clause-grows : goal.replace_node-returns-in_err-replace_each-clause-grows
replace_node-returns-in_err-replace_each-clause-grows t c = c.replace_each.ensures.grows
