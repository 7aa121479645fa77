use Rattle.std.proofs.Common.{◌∙◌, sym, ap, subst, [], map, flat_map}
use Rattle.std.proofs.lemmas.Result.{on_ok_weaker}
use Rattle.logic_rules.specs.Instantiating.{each_once, applications_in, ground_terms}
use Rattle.numbered_terms.specs.Stored.{AreStored}
use Rattle.numbered_facts.specs.Answers.{AreAt}
use Rattle.numbered_branches.specs.Branches.{NumberedBranch, fact_at, branch_at}
use Rattle.numbered_branches.specs.Counts.{once}
use Rattle.numbered_instances.proofs.Grounds.{with_calls}
use Rattle.numbered_instances.proofs.ground.list_ground.Goals as goal

pub returns-clause-ground : goal.returns-clause-ground
returns-clause-ground c =
    let ts = c.args.store.now.terms in let us = c.list_facts.new.store.terms in let g = c.list_facts.new.ground in let b = c.args.branch.now in
    let stored = subst AreStored c.terms.ensures c.are_stored.ensures in
    let facts = c.deref.ensures.value ∙ ap (λ (x : NumberedBranch). x.facts) c.branch.view_is in
    let calls = c.deref-2.ensures.value ∙ ap (λ (x : NumberedBranch). x.calls) c.branch.view_is in
    let before = subst (λ fs. AreAt us g (each_once [] (flat_map applications_in (map (fact_at ts) fs)))) facts c.in_ok-list_facts.ensures.ground in
    on_ok_weaker c.insert_each.result (λ e. subst (λ js. AreAt us js (ground_terms (branch_at ts b))) (sym (e ∙ ap (once g) calls))
    (with_calls ts us c.in_ok-list_facts.ensures.grows.terms stored g b.calls (flat_map applications_in (map (fact_at ts) b.facts)) before c.requires.calls)) c.insert_each.ensures
