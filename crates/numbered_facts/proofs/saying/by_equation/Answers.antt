use Rattle.std.proofs.Common.{◌≡◌, ◌∙◌, ◌<◌, sym, ap, subst, None, IfOk, arith}
use Rattle.std.specs.List.{AllByRecursion}
use Rattle.logic_core.specs.Tree.{equal}
use Rattle.proof_core.specs.Says.{by_equation}
use Rattle.term_bank.specs.Numbered.{at}
use Rattle.term_bank.specs.Node.{tree_over, numbers_in}
use Rattle.term_bank.proofs.Numbers.{begins_same}
use Rattle.numbered_facts.specs.Answers.{StandsFor}
use Rattle.numbered_facts.proofs.Coefficients.{zero_says, side_says, others_say}
use Rattle.numbered_facts.proofs.saying.by_equation.Goals as goal

pub is_zero-requires : goal.is_zero-requires
is_zero-requires c = omega (arith, c.requires.fact, (subst (λ m. AllByRecursion (λ j. j < c.args.fact) (numbers_in m)) c.in-Eq.is c.node.ensures.lower).1.0)

pub solved-requires-clause-d : goal.solved-requires-clause-d
solved-requires-clause-d c = omega (arith, c.requires.fact, (subst (λ m. AllByRecursion (λ j. j < c.args.fact) (numbers_in m)) c.in-Eq.is c.node.ensures.lower).0)

pub returns-then-is_zero-clause-gives : goal.returns-then-is_zero-clause-gives
returns-then-is_zero-clause-gives c = let ts = c.args.terms.now in
    let shape : at ts c.args.fact ≡ equal (at ts c.in-Eq.d) (at ts c.in-Eq.z) = sym c.node.ensures.node ∙ ap (tree_over (at ts)) c.in-Eq.is in
    subst (λ u. IfOk c.solved.result (λ o. StandsFor c.solved.new.terms o u)) (zero_says (at ts c.args.fact) (at ts c.in-Eq.d) (at ts c.in-Eq.z) (at ts c.args.t) shape (sym c.is_zero.ensures ∙ c.if-is_zero.true)) c.solved.ensures.gives

pub other_side-requires-clause-a : goal.other_side-requires-clause-a
other_side-requires-clause-a c = omega (arith, c.requires.fact, (subst (λ m. AllByRecursion (λ j. j < c.args.fact) (numbers_in m)) c.in-Eq.is c.node.ensures.lower).0)

pub other_side-requires-clause-b : goal.other_side-requires-clause-b
other_side-requires-clause-b c = omega (arith, c.requires.fact, (subst (λ m. AllByRecursion (λ j. j < c.args.fact) (numbers_in m)) c.in-Eq.is c.node.ensures.lower).1.0)

pub returns-in_default-clause-grows : goal.returns-in_default-clause-grows
returns-in_default-clause-grows c = begins_same c.args.terms.now

pub returns-in_default-clause-gives : goal.returns-in_default-clause-gives
returns-in_default-clause-gives c = let ts = c.args.terms.now in
    subst (λ g. by_equation g (at ts c.args.t) ≡ None) c.node.ensures.node (others_say (at ts) c.node.result.now (at ts c.args.t) c.in_default.not-Eq)
