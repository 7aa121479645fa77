use Rattle.std.proofs.Common.{subst, IfOk}
use Rattle.std.specs.Option.{option_copied}
use Rattle.tableau_branch.specs.Oriented.{greater_side}
use Rattle.term_bank.specs.Numbered.{at}
use Rattle.numbered_facts.specs.Answers.{StandsFor}
use Rattle.numbered_facts.proofs.left.greater_of.Goals as goal

pub returns-clause-gives : goal.returns-clause-gives
returns-clause-gives c = let ts = c.args.terms.now in
    subst (λ k. IfOk c.greater_side.result (λ o. StandsFor ts o (greater_side k (at ts c.args.a) (at ts c.args.b)))) (c.find_sort.ensures.right c.args.a (option_copied c.sort_at.result) c.sort_at.ensures).1 c.greater_side.ensures
