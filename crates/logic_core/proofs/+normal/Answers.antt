use Rattle.std.proofs.Common.{◌∙◌, refl, sym, ap, subst, Some, option_map, arith}
use Rattle.std.proofs.lemmas.Grind.{common_steps}
use Rattle.logic_terms.specs.Tree.{no_trees, no_patterns}
use Rattle.logic_core.specs.Gives.{Gives}
use Rattle.logic_core.specs.Junction.{conjunction, disjunction}
use Rattle.logic_core.specs.TermView.{tree_of}
use Rattle.logic_core.specs.View.{trees_of, patterns_of, each_items}
use Rattle.logic_core.specs.Before.{tree_before, pattern_before}
use Rattle.logic_core.specs.Normal.{normal, normal_each, normal_patterns}
use Rattle.logic_core.proofs.Made.{given_more, given_all, trees_before_none, patterns_before_none}
use Rattle.logic_core.proofs.+normal.Goals as goal

pub normal::normal_each-loop-term-preserved : goal.normal::normal_each-loop-term-preserved
normal::normal_each-loop-term-preserved t c = record {
  left = given_more tree_before (λ ys. normal_each c.args.vars.now c.args.defs.now c.args.bound.now (trees_of ys)) c.args.terms.now _ _ c.loop-term.term-index _ c.in_ok-normal_under.field-0 _ c.loop-term-test.true c.term-item.is c.in_ok-push.ensures.items c.loop-term.invariant.left (rw c.in_ok-normal_under.ensures refl);
  less = grind (arith, common_steps);
}

pub normal::normal_each-returns : goal.normal::normal_each-returns
normal::normal_each-returns t c = given_all tree_before (λ ys. normal_each c.args.vars.now c.args.defs.now c.args.bound.now (trees_of ys)) c.args.terms.now c.loop-term.done.items c.loop-term.term-index _ no_trees c.loop-term-test.false refl c.loop-term.invariant.left ∙ ap Some (trees_before_none c.loop-term.done.items)

pub normal::normal_patterns-loop-pattern-preserved : goal.normal::normal_patterns-loop-pattern-preserved
normal::normal_patterns-loop-pattern-preserved t c = record {
  left = given_more pattern_before (λ ys. normal_patterns c.args.vars.now c.args.defs.now c.args.bound.now (patterns_of (each_items ys))) c.args.patterns.now _ _ c.loop-pattern.pattern-index _ c.in_ok-normal_each.field-0 _ c.loop-pattern-test.true c.pattern-item.is c.in_ok-push.ensures.items c.loop-pattern.invariant.left (rw (sym c.deref.ensures.value, c.in_ok-normal_each.ensures) refl);
  less = grind (arith, common_steps);
}

pub normal::normal_patterns-returns : goal.normal::normal_patterns-returns
normal::normal_patterns-returns t c = given_all pattern_before (λ ys. normal_patterns c.args.vars.now c.args.defs.now c.args.bound.now (patterns_of (each_items ys))) c.args.patterns.now c.loop-pattern.done.items c.loop-pattern.pattern-index _ no_patterns c.loop-pattern-test.false refl c.loop-pattern.invariant.left ∙ ap Some (patterns_before_none c.loop-pattern.done.items)

pub term::Term::normal_under-returns-in-And : goal.term::Term::normal_under-returns-in-And
term::Term::normal_under-returns-in-And t c =
    let same = ap (λ ts. option_map conjunction (normal_each c.args.vars.now c.args.defs.now c.args.bound.now (trees_of ts))) c.deref-in-And.ensures.value ∙ ap (λ n. normal c.args.vars.now c.args.defs.now c.args.bound.now (tree_of n)) (sym c.in-And.is) ∙ ap (normal c.args.vars.now c.args.defs.now c.args.bound.now) c.self.view_is in
    subst (λ o. Gives c.normal_junction.result o) same c.normal_junction.ensures

pub term::Term::normal_under-returns-in-Or : goal.term::Term::normal_under-returns-in-Or
term::Term::normal_under-returns-in-Or t c =
    let same = ap (λ ts. option_map disjunction (normal_each c.args.vars.now c.args.defs.now c.args.bound.now (trees_of ts))) c.deref-in-Or.ensures.value ∙ ap (λ n. normal c.args.vars.now c.args.defs.now c.args.bound.now (tree_of n)) (sym c.in-Or.is) ∙ ap (normal c.args.vars.now c.args.defs.now c.args.bound.now) c.self.view_is in
    subst (λ o. Gives c.normal_junction-in-Or.result o) same c.normal_junction-in-Or.ensures
