use Rattle.std.proofs.Common.{◌≡◌, ◌∙◌, ◌<◌, sym, ap, subst, refl, length, arith}
use Rattle.std.specs.List.{AllByRecursion}
use Rattle.std.proofs.lemmas.Bool.{eqb-true}
use Rattle.logic_core.specs.View.{trees_of, parts_of, patterns_of}
use Rattle.logic_core.specs.Order.{trees_order, parts_order, patterns_order}
use Rattle.logic_core.proofs.Ends.{ends_at}
use Rattle.logic_laws.proofs.OrderKeys.{order_is_total}
use Rattle.term_bank.specs.Numbered.{at}
use Rattle.term_bank.specs.Node.{numbers_in}
use Rattle.numbered_terms.specs.Lists.{terms_at, atoms_at, lists_at}
use Rattle.numbered_terms.proofs.Items.{all_lower, atom_at, row_below}
use Rattle.numbered_forms.proofs.order.+order.Goals as goal

pub compare-returns-then-eq : goal.compare-returns-then-eq
compare-returns-then-eq t c = let same : c.args.a ≡ c.args.b = eqb-true c.args.a c.args.b (sym c.eq.ensures ∙ c.if-eq.true) in
    sym ((order_is_total.1 (at c.args.terms.now c.args.a) (at c.args.terms.now c.args.b)).1 (ap (at c.args.terms.now) same))

pub compare-compare_inside-requires : goal.compare-compare_inside-requires
compare-compare_inside-requires t c = (
  omega (arith, c.decreases, c.a.view_is),
  (
    omega (arith, c.requires.a, c.a.view_is),
    (
      subst (λ n. AllByRecursion (λ j. j < n) (numbers_in c.node.result.now)) (sym c.a.view_is) c.node.ensures.lower,
      all_lower c.args.b (length c.args.terms.now) (numbers_in c.node-2.result.now) (omega (arith, c.requires.b)) c.node-2.ensures.lower,
    ),
  ),
)

pub compare_atoms-compare-requires : goal.compare_atoms-compare-requires
compare_atoms-compare-requires t c =
    let l : c.loop-i.i < length c.args.mine.now = omega arith in
    let w : c.loop-i.i < length c.args.theirs.now = omega arith in
    let mine = atom_at c.args.below c.args.mine.now c.loop-i.i c.index-mine-i.result c.requires.mine l in
    let theirs = atom_at (length c.args.terms.now) c.args.theirs.now c.loop-i.i c.index-theirs-i.result c.requires.theirs w in
    (omega (arith, c.decreases, mine), (omega (arith, c.requires.below, mine), theirs))

pub compare_lists-compare_terms-found-requires : goal.compare_lists-compare_terms-found-requires
compare_lists-compare_terms-found-requires t c =
    let l : c.loop-i.i < length c.args.mine.now = omega arith in
    let w : c.loop-i.i < length c.args.theirs.now = omega arith in (
      omega (arith, c.decreases),
      (
        c.requires.below,
        (
          subst (AllByRecursion (λ j. j < c.args.below)) (sym c.deref.ensures.value) (row_below c.args.below c.args.mine.now c.loop-i.i c.index-mine-i.result c.requires.mine l c.index-mine-i.is),
          subst (AllByRecursion (λ j. j < length c.args.terms.now)) (sym c.deref-in-loop-i.ensures.value) (row_below (length c.args.terms.now) c.args.theirs.now c.loop-i.i c.index-theirs-i.result c.requires.theirs w c.index-theirs-i.is),
        ),
      ),
    )

pub compare_terms-returns : goal.compare_terms-returns
compare_terms-returns t c = let e = ends_at (λ xs ys. trees_order (trees_of (terms_at c.args.terms.now xs)) (trees_of (terms_at c.args.terms.now ys))) refl (λ y ys. refl) (λ x xs. refl) c.args.mine.now c.args.theirs.now c.loop-i.i (omega arith) in cc

pub compare_atoms-returns : goal.compare_atoms-returns
compare_atoms-returns t c = let e = ends_at (λ xs ys. parts_order (parts_of (atoms_at c.args.terms.now xs)) (parts_of (atoms_at c.args.terms.now ys))) refl (λ y ys. refl) (λ x xs. refl) c.args.mine.now c.args.theirs.now c.loop-i.i (omega arith) in cc

pub compare_lists-returns : goal.compare_lists-returns
compare_lists-returns t c = let e = ends_at (λ xs ys. patterns_order (patterns_of (lists_at c.args.terms.now xs)) (patterns_of (lists_at c.args.terms.now ys))) refl (λ y ys. refl) (λ x xs. refl) c.args.mine.now c.args.theirs.now c.loop-i.i (omega arith) in cc
