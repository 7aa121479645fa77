use Rattle.std.proofs.Common.{◌∙◌, ◌<◌, [], ◌∷◌, sym, ap, subst, arith, map}
use Rattle.std.specs.List.{AllByRecursion}
use Rattle.std.proofs.lemmas.Result.{on_ok_weaker}
use Rattle.logic_rules.specs.Instantiating.{each_once}
use Rattle.term_bank.specs.Numbered.{at}
use Rattle.numbered_terms.proofs.Items.{item_below}
use Rattle.numbered_facts.proofs.OutsideWalk.{quantifier_alone, done_again, done_stays, joined_once, joined_within, walked_found, walked_done, inside_found, found_next, found_all}
use Rattle.numbered_facts.proofs.standing.+standing.Goals as goal

pub stand_in-returns-then-is_in-clause-found : goal.stand_in-returns-then-is_in-clause-found
stand_in-returns-then-is_in-clause-found t c = done_again c.args.terms.now c.args.done.now c.args.found.now c.args.id c.requires.whole (sym c.is_in.ensures ∙ c.if-is_in.true)

pub stand_in-stand_inside-requires : goal.stand_in-stand_inside-requires
stand_in-stand_inside-requires t c =
    let ts = c.args.terms.now in let found = c.args.found.now in let added = c.add.new.set in let e = c.in_ok-add.ensures in (
      omega (arith, c.decreases),
      (
        c.requires.id,
        (
          joined_within ts c.are_stored.ensures c.args.id c.requires.id found added c.requires.within e,
          done_stays ts c.args.done.now found added (at ts c.args.id ∷ []) (joined_once ts c.are_stored.ensures c.args.id c.requires.id found added c.requires.within e) c.requires.whole,
        ),
      ),
    )

pub stand_in-returns-clause-within : goal.stand_in-returns-clause-within
stand_in-returns-clause-within t c = on_ok_weaker c.add-2.result (λ e. c.in_ok-stand_inside.ensures.within) c.add-2.ensures

pub stand_in-returns-clause-whole : goal.stand_in-returns-clause-whole
stand_in-returns-clause-whole t c =
    on_ok_weaker c.add-2.result (λ e. walked_done c.args.terms.now c.are_stored.ensures c.args.id c.requires.id c.args.found.now c.add.new.set c.requires.within c.in_ok-add.ensures c.stand_inside.new.found c.in_ok-stand_inside.ensures.found
    c.stand_inside.new.done c.add-2.new.set e c.in_ok-stand_inside.ensures.whole) c.add-2.ensures

pub stand_in-returns-clause-found : goal.stand_in-returns-clause-found
stand_in-returns-clause-found t c =
    on_ok_weaker c.add-2.result (λ e. walked_found c.args.terms.now c.are_stored.ensures c.args.id c.requires.id c.args.found.now c.add.new.set c.requires.within c.in_ok-add.ensures c.stand_inside.new.found c.in_ok-stand_inside.ensures.found) c.add-2.ensures

pub stand_inside-returns-then-is_quantifier-clause-found : goal.stand_inside-returns-then-is_quantifier-clause-found
stand_inside-returns-then-is_quantifier-clause-found t c = let seen = map (at c.args.terms.now) c.args.found.now in
    sym (ap (each_once seen) (quantifier_alone (at c.args.terms.now c.args.id) (sym c.is_quantifier.ensures ∙ c.if-is_quantifier.true)))

pub stand_inside-stand_each-requires : goal.stand_inside-stand_each-requires
stand_inside-stand_each-requires t c = (
  omega (arith, c.decreases, c.id.view_is),
  (
    omega (arith, c.requires.id, c.id.view_is),
    (
      subst (λ n. AllByRecursion (λ j. j < n) c.deref.result.now) (sym c.id.view_is)
          (subst (AllByRecursion (λ j. j < c.args.id)) (sym (c.deref.ensures.value ∙ c.in_ok-parts.ensures)) c.node.ensures.lower),
      (c.requires.within, c.requires.whole),
    ),
  ),
)

pub stand_inside-returns-clause-found : goal.stand_inside-returns-clause-found
stand_inside-returns-clause-found t c =
    on_ok_weaker c.stand_each.result (inside_found c.args.terms.now c.args.id c.node.result.now c.deref.result.now c.stand_each.new.found c.args.found.now c.node.ensures.node (c.deref.ensures.value ∙ c.in_ok-parts.ensures) (sym c.is_quantifier.ensures ∙ c.if-is_quantifier.false)) c.stand_each.ensures.found

pub stand_each-stand_in-requires : goal.stand_each-stand_in-requires
stand_each-stand_in-requires t c =
    let low = item_below c.args.below c.args.ids.now c.loop-id.id-index c.id-item.result c.requires.lower c.loop-id-test.true c.id-item.is in
    (omega (arith, c.decreases, low), (omega (arith, low, c.requires.below), (c.loop-id.invariant.within, c.loop-id.invariant.whole)))

pub stand_each-loop-id-preserved : goal.stand_each-loop-id-preserved
stand_each-loop-id-preserved t c = record {
  within = c.in_ok-stand_in.ensures.within;
  whole = c.in_ok-stand_in.ensures.whole;
  found = found_next c.args.terms.now c.args.found.now c.loop-id.found c.stand_in.new.found c.args.ids.now c.loop-id.id-index c.id-item.result c.loop-id-test.true c.id-item.is c.loop-id.invariant.found c.in_ok-stand_in.ensures.found;
}

pub stand_each-returns-clause-found : goal.stand_each-returns-clause-found
stand_each-returns-clause-found t c = found_all c.args.terms.now c.args.found.now c.loop-id.found c.args.ids.now c.loop-id.id-index (omega (arith, c.loop-id-test.false)) c.loop-id.invariant.found
