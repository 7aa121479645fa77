use Rattle.std.proofs.Common.{◌∙◌, sym, ap, subst, [], ◌++◌, filter}
use Rattle.std.proofs.lemmas.Result.{on_ok_weaker}
use Rattle.logic_core.specs.Subterm.{outside}
use Rattle.tableau_branch.specs.Oriented.{is_application}
use Rattle.logic_rules.specs.Instantiating.{each_once}
use Rattle.term_bank.specs.Numbered.{at}
use Rattle.numbered_terms.specs.Stored.{AreStored}
use Rattle.numbered_facts.specs.Answers.{AreAt}
use Rattle.numbered_branches.specs.Counts.{once}
use Rattle.numbered_branches.proofs.Standing.{terms_on}
use Rattle.numbered_instances.proofs.Grounds.{once_joined}
use Rattle.numbered_instances.proofs.ground.push_ground.Goals as goal

pub returns-in-Some-clause-ground : goal.returns-in-Some-clause-ground
returns-in-Some-clause-ground c =
    let ts = c.args.store.now.terms in let g = c.args.ground.now in
    let found = filter is_application (outside (at ts c.args.term)) in
    let stored = subst AreStored c.terms.ensures c.are_stored.ensures in
    on_ok_weaker c.insert_each.result (λ e before h. subst (λ js. AreAt ts js (each_once [] (before ++ found))) (sym e) (once_joined ts stored g c.in-Some.ids.now before h found c.in-Some.ensures)) c.insert_each.ensures

pub returns-clause-ground : goal.returns-clause-ground
returns-clause-ground c =
    let ts = c.args.store.now.terms in let us = c.ground.new.self.terms in let g = c.args.ground.now in
    let found = filter is_application (outside (at ts c.args.term)) in
    let stored = subst AreStored c.terms-2.ensures c.are_stored-2.ensures in
    on_ok_weaker c.insert_each-2.result (λ e before h. subst (λ js. AreAt us js (each_once [] (before ++ found))) (sym (e ∙ ap (once g) c.deref.ensures.value))
    (once_joined us stored g c.in_ok-ids.ids.items before (terms_on ts us g (each_once [] before) c.in_ok-ids.ensures.grows.terms h) found c.in_ok-ids.ensures.gives)) c.insert_each-2.ensures
