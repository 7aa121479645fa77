use Rattle.std.proofs.Common.{sym, subst, [], filter}
use Rattle.logic_core.specs.Subterm.{outside}
use Rattle.logic_rules.specs.Instantiating.{each_once}
use Rattle.tableau_branch.specs.Oriented.{is_application}
use Rattle.term_bank.specs.Numbered.{at}
use Rattle.numbered_facts.specs.Answers.{AreAt}
use Rattle.numbered_facts.proofs.standing.ground_at.Goals as goal

pub returns-in-Some : goal.returns-in-Some
returns-in-Some c = let ts = c.args.terms.now in
    subst (λ is. AreAt ts is (each_once [] (filter is_application (outside (at ts c.args.id))))) (sym c.deref.ensures.value) (c.requires c.args.id c.in-Some.standing.now (sym c.in-Some.ensures)).ground
