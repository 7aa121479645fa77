use Rattle.std.proofs.Common.{◌∙◌, ◌<◌, sym, ap, subst, arith, take, IfOk}
use Rattle.std.specs.List.{AllByRecursion}
use Rattle.std.proofs.lemmas.Result.{on_ok_weaker}
use Rattle.std.proofs.lemmas.Bool.{leb-true}
use Rattle.logic_core.specs.Tree.{Tree}
use Rattle.logic_core.specs.Substitute.{put_within}
use Rattle.term_bank.specs.Numbered.{at}
use Rattle.term_bank.specs.Node.{numbers_in}
use Rattle.term_bank.specs.Table.{IsNodeAt}
use Rattle.term_bank.specs.declared.node.Node.{Node}
use Rattle.term_bank.proofs.Numbers.{begins_then, begins_same, begins_length, begins_at}
use Rattle.numbered_terms.specs.At.{IsAt}
use Rattle.numbered_terms.specs.Reach.{reach}
use Rattle.numbered_terms.specs.Lists.{terms_at}
use Rattle.numbered_terms.specs.Renumbered.{IsFound, AreFound}
use Rattle.numbered_terms.proofs.Items.{item_below, one_more, all_done}
use Rattle.numbered_terms.proofs.Walking.{still_below, there, unchanged, each_later, right_later, noted_right, noted_covers, noted_found, covers_then, same_numbers, node_before}
use Rattle.numbered_terms.proofs.Staying.{stays_unreached}
use Rattle.numbered_terms.proofs.Results.{on_ok}
use Rattle.numbered_forms.proofs.LongerStores.{numbers_stay}
use Rattle.numbered_forms.proofs.Substituting.{put_as_before}
use Rattle.numbered_forms.proofs.substitute.+substitute.Goals as goal

pub put_in-returns-then-is_within-clause-found : goal.put_in-returns-then-is_within-clause-found
put_in-returns-then-is_within-clause-found t c = let ts = c.args.terms.now in let A = terms_at ts c.args.args.now in
    unchanged (put_within A c.args.depth) ts c.args.found.now.entries c.args.id c.requires.right c.requires.id
    (stays_unreached A c.args.depth (at ts c.args.id) (leb-true (reach (at ts c.args.id)) c.args.depth (sym c.is_within.ensures ∙ c.if-is_within.true)))

pub put_in-returns-then-is_there-clause-found : goal.put_in-returns-then-is_there-clause-found
put_in-returns-then-is_there-clause-found t c = there (put_within (terms_at c.args.terms.now c.args.args.now) c.args.depth) c.args.terms.now c.args.found.now.entries c.args.id c.requires.right (sym c.is_there.ensures ∙ c.if-is_there.true)

pub put_in-returns-clause-right : goal.put_in-returns-clause-right
put_in-returns-clause-right t c = let ts = c.args.terms.now in let us = c.put_term.new.terms in let R = put_within (terms_at ts c.args.args.now) c.args.depth in
    let b = c.in_ok-made.ensures.grows in let g = c.in_ok-made.ensures.gives in
    let made : IsAt us c.in_ok-made.made (R (at us c.args.id)) = (g.0, g.1 ∙ ap R (sym (begins_at ts us c.args.id b c.requires.id))) in
    on_ok_weaker c.note.result (λ e. noted_right R us c.put_term.new.found.entries c.note.new.found.entries c.args.id c.in_ok-made.made e c.in_ok-made.ensures.right (still_below ts us c.args.id b c.requires.id) made) c.note.ensures.ok

pub put_in-returns-clause-covers : goal.put_in-returns-clause-covers
put_in-returns-clause-covers t c = let ts = c.args.terms.now in let us = c.put_term.new.terms in let R = put_within (terms_at ts c.args.args.now) c.args.depth in
    let b = c.in_ok-made.ensures.grows in let g = c.in_ok-made.ensures.gives in
    let made : IsAt us c.in_ok-made.made (R (at us c.args.id)) = (g.0, g.1 ∙ ap R (sym (begins_at ts us c.args.id b c.requires.id))) in
    on_ok_weaker c.note.result (λ e. covers_then c.args.found.now.entries c.put_term.new.found.entries c.note.new.found.entries c.in_ok-made.ensures.covers
    (noted_covers R us c.put_term.new.found.entries c.note.new.found.entries c.args.id c.in_ok-made.made e c.in_ok-made.ensures.right (still_below ts us c.args.id b c.requires.id) made)) c.note.ensures.ok

pub put_in-returns-clause-found : goal.put_in-returns-clause-found
put_in-returns-clause-found t c = let ts = c.args.terms.now in let us = c.put_term.new.terms in let R = put_within (terms_at ts c.args.args.now) c.args.depth in
    let b = c.in_ok-made.ensures.grows in let g = c.in_ok-made.ensures.gives in
    let made : IsAt us c.in_ok-made.made (R (at us c.args.id)) = (g.0, g.1 ∙ ap R (sym (begins_at ts us c.args.id b c.requires.id))) in
    on_ok_weaker c.note.result (λ e. noted_found R us c.put_term.new.found.entries c.note.new.found.entries c.args.id c.in_ok-made.made e c.in_ok-made.ensures.right (still_below ts us c.args.id b c.requires.id) made) c.note.ensures.ok

pub put_each-loop-id-init : goal.put_each-loop-id-init
put_each-loop-id-init t c = record { grows = begins_same c.args.terms.now; right = c.requires.right; covers = λ i h. h; found = tt }

pub put_each-put_in-requires : goal.put_each-put_in-requires
put_each-put_in-requires t c =
    let ts = c.args.terms.now in let us = c.loop-id.terms in let b = c.loop-id.invariant.grows in
    let low = item_below c.args.below c.args.ids.now c.loop-id.id-index c.id-item.result c.requires.lower c.loop-id-test.true c.id-item.is in (
      omega (arith, c.decreases, low),
      (
        numbers_stay ts us b c.args.args.now c.requires.args,
        (omega (arith, low, c.requires.below, begins_length ts us b), subst (λ f. AreFound f us c.loop-id.found.entries) (sym (put_as_before ts us c.args.args.now c.args.depth b c.requires.args)) c.loop-id.invariant.right),
      ),
    )

pub put_each-returns-in_err-put_in-clause-grows : goal.put_each-returns-in_err-put_in-clause-grows
put_each-returns-in_err-put_in-clause-grows t c = begins_then c.args.terms.now c.loop-id.terms c.put_in.new.terms c.loop-id.invariant.grows c.put_in.ensures.grows

pub put_each-loop-id-preserved : goal.put_each-loop-id-preserved
put_each-loop-id-preserved t c =
    let ts = c.args.terms.now in let us = c.loop-id.terms in let vs = c.put_in.new.terms in
    let found = c.loop-id.found.entries in let more = c.put_in.new.found.entries in
    let b = c.loop-id.invariant.grows in let d = c.put_in.ensures.grows in
    let R : Tree → Tree = put_within (terms_at ts c.args.args.now) c.args.depth in
    let e = put_as_before ts us c.args.args.now c.args.depth b c.requires.args in
    let right = subst (λ f. AreFound f vs more) e c.in_ok-put_in.ensures.right in
    let covers = c.in_ok-put_in.ensures.covers in
    record {
      grows = begins_then ts us vs b d;
      right = right;
      covers = covers_then c.args.found.now.entries found more c.loop-id.invariant.covers covers;
      found = one_more (IsFound R vs more) c.args.ids.now c.loop-id.id-index c.id-item.result c.loop-id-test.true c.id-item.is
          (each_later R us vs found more (take c.loop-id.id-index c.args.ids.now) d right covers c.loop-id.invariant.found)
          (subst (λ f. IsFound f vs more c.id-item.result) e c.in_ok-put_in.ensures.found);
    }

pub put_each-returns-clause-found : goal.put_each-returns-clause-found
put_each-returns-clause-found t c = all_done (IsFound (put_within (terms_at c.args.terms.now c.args.args.now) c.args.depth) c.loop-id.terms c.loop-id.found.entries) c.args.ids.now c.loop-id.id-index (omega (arith, c.loop-id-test.false)) c.loop-id.invariant.found

pub put_node-put_each-requires : goal.put_node-put_each-requires
put_node-put_each-requires t c = (
  omega (arith, c.decreases, c.id.view_is),
  (
    c.requires.args,
    (
      omega (arith, c.requires.id, c.id.view_is),
      (
        subst (λ n. AllByRecursion (λ j. j < n) c.deref.result.now) (sym c.id.view_is)
            (subst (AllByRecursion (λ j. j < c.args.id)) (sym (c.deref.ensures.value ∙ c.in_ok-parts.ensures)) c.node.ensures.lower),
        c.requires.right,
      ),
    ),
  ),
)

pub put_node-put_whole-requires-clause-id : goal.put_node-put_whole-requires-clause-id
put_node-put_whole-requires-clause-id t c = still_below c.args.terms.now c.put_each.new.terms c.args.id c.put_each.ensures.grows c.requires.id

pub put_node-put_whole-requires-clause-parts : goal.put_node-put_whole-requires-clause-parts
put_node-put_whole-requires-clause-parts t c =
    let ts = c.args.terms.now in let us = c.put_each.new.terms in let b = c.put_each.ensures.grows in
    let more = c.put_each.new.found.entries in
    let R : Tree → Tree = put_within (terms_at ts c.args.args.now) c.args.deeper in
    let all : AllByRecursion (IsFound R us more) (numbers_in c.node.result.now) = subst (AllByRecursion (IsFound R us more)) (c.deref.ensures.value ∙ c.in_ok-parts.ensures) c.in_ok-put_each.ensures.found in
    subst (λ f. (m : Node) → IsNodeAt us c.args.id m → AllByRecursion (IsFound f us more) (numbers_in m)) (sym (put_as_before ts us c.args.args.now c.args.deeper b c.requires.args))
    (λ m is. same_numbers (IsFound R us more) ts c.args.id c.node.result.now m c.are_stored.ensures c.requires.id (c.node.ensures.node, c.node.ensures.lower) (node_before ts us c.args.id m b c.requires.id is) all)

pub put_node-returns-clause-grows : goal.put_node-returns-clause-grows
put_node-returns-clause-grows t c = begins_then c.args.terms.now c.put_each.new.terms c.put_whole.new.terms c.put_each.ensures.grows c.put_whole.ensures.grows

pub put_node-returns-clause-right : goal.put_node-returns-clause-right
put_node-returns-clause-right t c = let us = c.put_each.new.terms in let R : Tree → Tree = put_within (terms_at c.args.terms.now c.args.args.now) c.args.deeper in
    on_ok c.put_whole.result (right_later R us c.put_whole.new.terms c.put_each.new.found.entries c.put_whole.ensures.grows c.in_ok-put_each.ensures.right)

pub put_node-returns-clause-gives : goal.put_node-returns-clause-gives
put_node-returns-clause-gives t c = let ts = c.args.terms.now in let us = c.put_each.new.terms in let b = c.put_each.ensures.grows in
    let same = put_as_before ts us c.args.args.now c.args.depth b c.requires.args in let whole = begins_at ts us c.args.id b c.requires.id in
    subst (λ u. IfOk c.put_whole.result (λ i. IsAt c.put_whole.new.terms i u)) (λ k. same k (whole k)) c.put_whole.ensures.gives

pub put_term-returns-in-Some-clause-right : goal.put_term-returns-in-Some-clause-right
put_term-returns-in-Some-clause-right t c = let ts = c.args.terms.now in
    on_ok c.put_bound.result (right_later (put_within (terms_at ts c.args.args.now) c.args.depth) ts c.put_bound.new.terms c.args.found.now.entries c.put_bound.ensures.grows c.requires.right)

pub put_term-returns-clause-right : goal.put_term-returns-clause-right
put_term-returns-clause-right t c = let ts = c.args.terms.now in
    on_ok c.put_under.result (right_later (put_within (terms_at ts c.args.args.now) c.args.depth) ts c.put_under.new.terms c.args.found.now.entries c.put_under.ensures.grows c.requires.right)
