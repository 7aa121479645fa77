use Rattle.std.proofs.Common.{◌∙◌, sym, subst, IfOk}
use Rattle.term_bank.specs.Numbered.{at}
use Rattle.numbered_facts.specs.Answers.{StandsFor}
use Rattle.numbered_facts.proofs.LeftSides.{zero_left}
use Rattle.numbered_facts.proofs.left.equation_left.Goals as goal

pub returns-then-is_zero-clause-gives : goal.returns-then-is_zero-clause-gives
returns-then-is_zero-clause-gives c = let ts = c.args.terms.now in
    subst (λ u. IfOk c.linear_left.result (λ o. StandsFor ts o u)) (sym (zero_left c.args.vars.now c.args.defs.now (at ts c.args.a) (at ts c.args.b) (sym c.is_zero.ensures ∙ c.if-is_zero.true))) c.linear_left.ensures
