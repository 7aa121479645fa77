use Rattle.std.proofs.Common.{◌∙◌, sym, ap, subst, IfOk, ◌<◌, arith}
use Rattle.tableau_branch.specs.Oriented.{left_side}
use Rattle.term_bank.specs.Numbered.{at}
use Rattle.term_bank.specs.Node.{tree_over, numbers_in}
use Rattle.numbered_facts.specs.Answers.{StandsFor}
use Rattle.std.specs.List.{AllByRecursion}
use Rattle.numbered_facts.proofs.left.left_side.Goals as goal

pub returns-in-Eq-clause-gives : goal.returns-in-Eq-clause-gives
returns-in-Eq-clause-gives c = let ts = c.args.terms.now in
    subst (λ t. IfOk c.equation_left.result (λ o. StandsFor ts o (left_side c.args.vars.now c.args.defs.now t))) (sym (ap (tree_over (at ts)) c.in-Eq.is) ∙ c.node.ensures.node) c.equation_left.ensures.gives

pub equation_left-requires-clause-a : goal.equation_left-requires-clause-a
equation_left-requires-clause-a c = omega (arith, c.requires.fact, (subst (λ m. AllByRecursion (λ j. j < c.args.fact) (numbers_in m)) c.in-Eq.is c.node.ensures.lower).0)

pub equation_left-requires-clause-b : goal.equation_left-requires-clause-b
equation_left-requires-clause-b c = omega (arith, c.requires.fact, (subst (λ m. AllByRecursion (λ j. j < c.args.fact) (numbers_in m)) c.in-Eq.is c.node.ensures.lower).1.0)

pub is_variable-requires : goal.is_variable-requires
is_variable-requires c = omega (arith, c.requires.fact, (subst (λ m. AllByRecursion (λ j. j < c.args.fact) (numbers_in m)) c.in-Not.is c.node.ensures.lower).0)
