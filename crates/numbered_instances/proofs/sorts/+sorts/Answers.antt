use Rattle.std.proofs.Common.{◌∙◌, ◌<◌, refl, sym, subst, [], arith}
use Rattle.std.specs.List.{AllByRecursion}
use Rattle.logic_core.specs.Sorts.{are}
use Rattle.logic_core.specs.View.{trees_of}
use Rattle.term_bank.specs.Node.{numbers_in}
use Rattle.numbered_terms.specs.Lists.{terms_at, AtomsBelow}
use Rattle.logic_core.proofs.Ends.{same_at}
use Rattle.numbered_terms.proofs.Items.{atom_below}
use Rattle.numbered_instances.proofs.sorts.+sorts.Goals as goal

pub sort_over-sum_sort-requires : goal.sort_over-sum_sort-requires
sort_over-sum_sort-requires t c = (
  omega (arith, c.decreases, c.id.view_is),
  (
    omega (arith, c.requires, c.id.view_is),
    subst (λ n. AtomsBelow n c.deref.result.now) (sym c.id.view_is) (subst (AtomsBelow c.args.id) (sym c.deref.ensures.value) (subst (λ m. AllByRecursion (λ j. j < c.args.id) (numbers_in m)) c.in-Sum.is c.node.ensures.lower)),
  ),
)

pub sum_sort-has_sort-requires : goal.sum_sort-has_sort-requires
sum_sort-has_sort-requires t c =
    let low = atom_below c.args.below c.args.parts.now c.loop-part.part-index c.part-item.result c.requires.parts c.loop-part-test.true c.part-item.is in
    (omega (arith, c.decreases, low), omega (arith, low, c.requires.below))

pub are-returns : goal.are-returns
are-returns t c =
    let e = same_at (λ ks is. are c.args.vars.now c.args.defs.now [] ks (trees_of (terms_at c.args.terms.now is))) refl (λ y ys. refl) (λ x xs. refl) c.args.sorts.now c.args.ids.now c.loop-i.i (omega arith) in sym e ∙ c.loop-i.invariant
