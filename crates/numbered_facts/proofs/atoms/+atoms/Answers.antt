use Rattle.std.proofs.Common.{◌∙◌, ◌<◌, sym, subst, arith}
use Rattle.std.specs.List.{AllByRecursion}
use Rattle.numbered_terms.specs.Slots.{kept_at}
use Rattle.numbered_terms.proofs.Items.{item_below}
use Rattle.numbered_forms.proofs.Memos.{kept_more, kept_alike}
use Rattle.numbered_facts.specs.Atoms.{AreAtomsAmong}
use Rattle.numbered_facts.specs.Memos.{AreAtoms}
use Rattle.numbered_facts.proofs.Found.{there_now}
use Rattle.numbered_facts.proofs.Joining.{none_among, joined_next, joined_all, whole_atoms, what_is_kept}
use Rattle.numbered_facts.proofs.atoms.+atoms.Goals as goal

pub find_atoms-join_each-requires : goal.find_atoms-join_each-requires
find_atoms-join_each-requires t c = (
  omega (arith, c.decreases, c.id.view_is),
  (
    omega (arith, c.requires.id, c.id.view_is),
    (
      subst (λ n. AllByRecursion (λ j. j < n) c.deref.result.now) (sym c.id.view_is)
          (subst (AllByRecursion (λ j. j < c.args.id)) (sym (c.deref.ensures.value ∙ c.in_ok-parts.ensures)) c.node.ensures.lower),
      c.requires.right,
    ),
  ),
)

pub find_atoms-returns-in_err-keep_atoms-clause-right : goal.find_atoms-returns-in_err-keep_atoms-clause-right
find_atoms-returns-in_err-keep_atoms-clause-right t c = kept_alike (AreAtoms c.args.terms.now) c.join_each.new.memo.slots.items c.keep_atoms.new.memo.slots.items c.in_err-keep_atoms.ensures.memory c.join_each.ensures.right

pub find_atoms-returns-clause-right : goal.find_atoms-returns-clause-right
find_atoms-returns-clause-right t c = let ts = c.args.terms.now in let ids = c.deref.result.now in
    kept_more (AreAtoms ts) c.join_each.new.memo.slots.items c.keep_atoms.new.memo.slots.items c.args.id c.push_where.new.ids c.in_ok-keep_atoms.ensures.ok c.join_each.ensures.right
    (whole_atoms ts c.are_stored.ensures c.args.id c.node.result.now ids c.in_ok-found.found.items c.is_atom.result c.push_where.new.ids c.requires.id c.node.ensures.node
    (c.deref.ensures.value ∙ c.in_ok-parts.ensures) c.is_atom.ensures
    (subst (λ n. AreAtomsAmong ts n ids c.in_ok-found.found.items) c.id.view_is c.in_ok-found.ensures.among) c.in_ok-push_where.ensures)

pub find_atoms-returns-clause-there : goal.find_atoms-returns-clause-there
find_atoms-returns-clause-there t c = there_now c.args.id c.push_where.new.ids c.join_each.new.memo.slots.items c.keep_atoms.new.memo.slots.items c.in_ok-keep_atoms.ensures.ok

pub join_each-loop-id-init : goal.join_each-loop-id-init
join_each-loop-id-init t c = record { right = c.requires.right; among = none_among c.args.terms.now c.args.below c.new-found.result.items c.new-found.ensures.items }

pub join_each-find_atoms-requires : goal.join_each-find_atoms-requires
join_each-find_atoms-requires t c =
    let low = item_below c.args.below c.args.ids.now c.loop-id.id-index c.id-item.result c.requires.lower c.loop-id-test.true c.id-item.is in
    (omega (arith, c.decreases, low), (omega (arith, low, c.requires.below), c.loop-id.invariant.right))

pub join_each-join_kept-requires : goal.join_each-join_kept-requires
join_each-join_kept-requires t c = record { rising = c.loop-id.invariant.among.rising; right = c.find_atoms.ensures.right }

pub join_each-loop-id-preserved : goal.join_each-loop-id-preserved
join_each-loop-id-preserved t c = let ts = c.args.terms.now in let x = c.id-item.result in
    let low = item_below c.args.below c.args.ids.now c.loop-id.id-index x c.requires.lower c.loop-id-test.true c.id-item.is in
    let kept = what_is_kept (kept_at c.find_atoms.new.memo.slots.items x) c.in_ok-find_atoms.ensures.there in record {
      right = c.find_atoms.ensures.right;
      among = joined_next ts c.are_stored.ensures c.args.below c.loop-id.id-index x c.args.ids.now c.loop-id.found.items c.in_ok-found.found kept.0 c.loop-id-test.true c.id-item.is low
          (c.find_atoms.ensures.right x kept.0 kept.1) (c.in_ok-found.ensures kept.0 kept.1) c.loop-id.invariant.among;
    }

pub join_each-returns-clause-among : goal.join_each-returns-clause-among
join_each-returns-clause-among t c = joined_all c.args.terms.now c.args.below c.loop-id.id-index c.args.ids.now c.loop-id.found.items (omega (arith, c.loop-id-test.false)) c.loop-id.invariant.among
