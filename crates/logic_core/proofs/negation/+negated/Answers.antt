use Rattle.std.proofs.Common.{◌∙◌, ap, sym, subst, refl, Some, option_map, arith}
use Rattle.std.proofs.lemmas.Grind.{common_steps}
use Rattle.logic_terms.specs.Tree.{no_trees}
use Rattle.logic_core.specs.Gives.{Gives}
use Rattle.logic_core.specs.TermView.{tree_of}
use Rattle.logic_core.specs.View.{trees_of}
use Rattle.logic_core.specs.Before.{tree_before}
use Rattle.logic_core.specs.Junction.{conjunction, disjunction, negated, negated_each}
use Rattle.logic_core.proofs.Made.{given_more, given_all, trees_before_none}
use Rattle.logic_core.proofs.negation.+negated.Goals as goal

pub negated_each-loop-term-preserved : goal.negated_each-loop-term-preserved
negated_each-loop-term-preserved t c = record {
  made = given_more tree_before (λ ts. negated_each (trees_of ts)) c.args.terms.now _ _ c.loop-term.term-index _ _ _ c.loop-term-test.true c.term-item.is c.in_ok-push.ensures.items c.loop-term.invariant.made (rw c.in_ok-negated.ensures refl);
  less = grind (arith, common_steps);
}

pub negated_each-returns : goal.negated_each-returns
negated_each-returns t c = given_all tree_before (λ ts. negated_each (trees_of ts)) c.args.terms.now _ c.loop-term.term-index _ no_trees c.loop-term-test.false refl c.loop-term.invariant.made ∙ ap Some (trees_before_none c.loop-term.parts.items)

pub negated-returns-in-And : goal.negated-returns-in-And
negated-returns-in-And t c =
    let same = ap (λ ts. option_map disjunction (negated_each (trees_of ts))) c.deref-in-And.ensures.value ∙ ap (λ n. negated (tree_of n)) (sym c.in-And.is) ∙ ap negated c.term.view_is in
    subst (λ o. Gives c.negated_junction.result o) same c.negated_junction.ensures

pub negated-returns-in-Or : goal.negated-returns-in-Or
negated-returns-in-Or t c =
    let same = ap (λ ts. option_map conjunction (negated_each (trees_of ts))) c.deref-in-Or.ensures.value ∙ ap (λ n. negated (tree_of n)) (sym c.in-Or.is) ∙ ap negated c.term.view_is in
    subst (λ o. Gives c.negated_junction-in-Or.result o) same c.negated_junction-in-Or.ensures
