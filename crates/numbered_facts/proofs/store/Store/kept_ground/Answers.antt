use Rattle.std.proofs.Common.{subst, IfSome, [], filter}
use Rattle.logic_core.specs.Subterm.{outside}
use Rattle.tableau_branch.specs.Oriented.{is_application}
use Rattle.logic_rules.specs.Instantiating.{each_once}
use Rattle.term_bank.specs.Numbered.{at}
use Rattle.numbered_terms.specs.Stored.{Numbered}
use Rattle.numbered_facts.specs.Answers.{AreAt}
use Rattle.numbered_facts.proofs.store.Store.kept_ground.Goals as goal

pub ground_at-requires : goal.ground_at-requires
ground_at-requires c = c.self.invariant.0.standing

pub returns : goal.returns
returns c = subst (λ (n : Numbered). IfSome c.ground_at.result (λ v. AreAt n.terms v.now (each_once [] (filter is_application (outside (at n.terms c.args.id)))))) c.self.view_is c.ground_at.ensures
