use Rattle.std.proofs.Common.{◌≡◌, ◌∙◌, ◌<◌, sym, ap, subst, IfOk, arith}
use Rattle.std.specs.List.{AllByRecursion}
use Rattle.logic_core.specs.Tree.{equal, at_most, negation}
use Rattle.logic_core.specs.Tighten.{tighten}
use Rattle.term_bank.specs.Numbered.{at}
use Rattle.term_bank.specs.Node.{tree_over, numbers_in}
use Rattle.term_bank.proofs.Numbers.{begins_same}
use Rattle.numbered_terms.specs.At.{IsAt}
use Rattle.numbered_facts.proofs.Quotients.{tight_zero, at_most_stays, equal_zero, equal_stays, others_stay}
use Rattle.numbered_facts.proofs.tightening.tightened.Goals as goal

pub tight_at_most-requires : goal.tight_at_most-requires
tight_at_most-requires c = omega (arith, c.requires, (subst (λ m. AllByRecursion (λ j. j < c.args.id) (numbers_in m)) c.in-Le.is c.node.ensures.lower).1.0)

pub tight_equal-requires : goal.tight_equal-requires
tight_equal-requires c = omega (arith, c.requires, (subst (λ m. AllByRecursion (λ j. j < c.args.id) (numbers_in m)) c.in-Eq.is c.node.ensures.lower).0)

pub tighten_not-requires-clause-t : goal.tighten_not-requires-clause-t
tighten_not-requires-clause-t c = omega (arith, c.requires, (subst (λ m. AllByRecursion (λ j. j < c.args.id) (numbers_in m)) c.in-Not.is c.node.ensures.lower).0)

pub tighten_not-requires-clause-is : goal.tighten_not-requires-clause-is
tighten_not-requires-clause-is c = sym c.node.ensures.node ∙ ap (tree_over (at c.args.terms.now)) c.in-Not.is

pub returns-in-Not-clause-gives : goal.returns-in-Not-clause-gives
returns-in-Not-clause-gives c = let ts = c.args.terms.now in
    subst (λ t. IfOk c.tighten_not.result (λ i. IsAt c.tighten_not.new.terms i (tighten t))) (sym (ap (tree_over (at ts)) c.in-Not.is) ∙ c.node.ensures.node) c.tighten_not.ensures.gives

pub returns-in_default-clause-grows : goal.returns-in_default-clause-grows
returns-in_default-clause-grows c = begins_same c.args.terms.now

pub returns-in_default-clause-gives : goal.returns-in_default-clause-gives
returns-in_default-clause-gives c = (c.requires, subst (λ t. t ≡ tighten t) c.node.ensures.node (others_stay (at c.args.terms.now) c.node.result.now c.in_default.not-Le c.in_default.not-Eq c.in_default.not-Not))
