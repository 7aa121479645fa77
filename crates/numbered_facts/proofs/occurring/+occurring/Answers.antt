use Rattle.std.proofs.Common.{◌∙◌, ◌<◌, ◌||◌, sym, ap, subst, arith, Bool}
use Rattle.std.specs.List.{list_any, AllByRecursion}
use Rattle.std.proofs.lemmas.Result.{on_ok_weaker}
use Rattle.logic_core.specs.Tree.{Tree}
use Rattle.logic_core.specs.Subterm.{has}
use Rattle.logic_core.proofs.Booleans.{or_false}
use Rattle.term_bank.specs.Numbered.{at}
use Rattle.numbered_terms.proofs.Items.{item_below}
use Rattle.numbered_facts.specs.Inside.{picks_one}
use Rattle.numbered_facts.proofs.Occurrences.{found_again, found_picks, found_whole, picks_next, picks_all}
use Rattle.numbered_facts.proofs.occurring.+occurring.Goals as goal

pub find_in-returns-then-is_in-clause-picks : goal.find_in-returns-then-is_in-clause-picks
find_in-returns-then-is_in-clause-picks t c = found_again c.args.terms.now c.args.found.now c.args.id c.requires.whole (sym c.is_in.ensures ∙ c.if-is_in.true)

pub find_in-find_each-requires : goal.find_in-find_each-requires
find_in-find_each-requires t c = (
  omega (arith, c.decreases, c.id.view_is),
  (
    omega (arith, c.requires.id, c.id.view_is),
    (
      subst (λ n. AllByRecursion (λ j. j < n) c.deref.result.now) (sym c.id.view_is)
          (subst (AllByRecursion (λ j. j < c.args.id)) (sym (c.deref.ensures.value ∙ c.in_ok-parts.ensures)) c.node.ensures.lower),
      c.requires.whole,
    ),
  ),
)

pub find_in-returns-clause-whole : goal.find_in-returns-clause-whole
find_in-returns-clause-whole t c = let ts = c.args.terms.now in let ids = c.deref.ensures.value ∙ c.in_ok-parts.ensures in
    let parts = λ (p : Tree → Bool). c.in_ok-find_each.ensures.picks p ∙ ap (λ is. picks_one p ts c.args.found.now || list_any (λ k. has p (at ts k)) is) ids in
    on_ok_weaker c.add.result (λ e. found_whole ts c.args.found.now c.find_each.new.found c.args.id c.node.result.now c.requires.id c.node.ensures.node c.in_ok-find_each.ensures.whole parts c.add.new.set e) c.add.ensures

pub find_in-returns-clause-picks : goal.find_in-returns-clause-picks
find_in-returns-clause-picks t c = let ts = c.args.terms.now in let ids = c.deref.ensures.value ∙ c.in_ok-parts.ensures in
    let parts = λ (p : Tree → Bool). c.in_ok-find_each.ensures.picks p ∙ ap (λ is. picks_one p ts c.args.found.now || list_any (λ k. has p (at ts k)) is) ids in
    on_ok_weaker c.add.result (λ e. found_picks ts c.args.found.now c.find_each.new.found c.args.id c.node.result.now c.requires.id c.node.ensures.node c.in_ok-find_each.ensures.whole parts c.add.new.set e) c.add.ensures

pub find_each-loop-id-init : goal.find_each-loop-id-init
find_each-loop-id-init t c = record { whole = c.requires.whole; picks = λ p. sym (or_false (picks_one p c.args.terms.now c.args.found.now)) }

pub find_each-find_in-requires : goal.find_each-find_in-requires
find_each-find_in-requires t c =
    let low = item_below c.args.below c.args.ids.now c.loop-id.id-index c.id-item.result c.requires.lower c.loop-id-test.true c.id-item.is in
    (omega (arith, c.decreases, low), (omega (arith, low, c.requires.below), c.loop-id.invariant.whole))

pub find_each-loop-id-preserved : goal.find_each-loop-id-preserved
find_each-loop-id-preserved t c = record {
  whole = c.in_ok-find_in.ensures.whole;
  picks = λ p. picks_next c.args.terms.now p c.args.found.now c.loop-id.found c.find_in.new.found c.args.ids.now c.loop-id.id-index c.id-item.result c.loop-id-test.true c.id-item.is (c.loop-id.invariant.picks p) (c.in_ok-find_in.ensures.picks p);
}

pub find_each-returns-clause-picks : goal.find_each-returns-clause-picks
find_each-returns-clause-picks t c = λ p. picks_all c.args.terms.now p c.args.found.now c.loop-id.found c.args.ids.now c.loop-id.id-index (omega (arith, c.loop-id-test.false)) (c.loop-id.invariant.picks p)
