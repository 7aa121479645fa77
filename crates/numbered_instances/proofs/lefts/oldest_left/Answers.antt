use Rattle.std.proofs.Common.{◌≡◌, ◌∙◌, ◌<◌, sym, ap, subst, [], map, length}
use Rattle.std.specs.List.{AllByRecursion}
use Rattle.std.proofs.lemmas.Result.{IfOk-weaker}
use Rattle.numbered_terms.proofs.Results.{on_ok}
use Rattle.tableau_branch.specs.Branch.{first_from}
use Rattle.logic_rules.specs.Rewriting.{left_in_another}
use Rattle.numbered_branches.specs.Branches.{NumberedFact, IsFactBelow, fact_at}
use Rattle.numbered_instances.specs.Shared.{AreShared}
use Rattle.numbered_instances.proofs.SharedAtoms.{counted_on}
use Rattle.numbered_instances.proofs.LeftFacts.{facts_low, facts_stay}
use Rattle.numbered_instances.proofs.lefts.oldest_left.Goals as goal

pub listed_left-requires-clause-facts : goal.listed_left-requires-clause-facts
listed_left-requires-clause-facts c = let us = c.list.new.store.terms in
    subst (AllByRecursion (IsFactBelow (length us))) (sym c.facts_of-facts.ensures) (facts_low c.args.store.now.terms us c.in_ok-list.ensures.grows.terms c.args.branch.now.facts c.requires.branch.facts)

pub listed_left-requires-clause-shared : goal.listed_left-requires-clause-shared
listed_left-requires-clause-shared c = let s = c.list.new.self in
    subst (λ is. AreShared c.list.new.store.terms is s.counts.items) c.in_ok-list.ensures.listed c.in_ok-list.ensures.counted.1

pub returns-clause-counted : goal.returns-clause-counted
returns-clause-counted c = on_ok c.listed_left.result (counted_on c.list.new.store.terms c.listed_left.new.store.terms c.listed_left.ensures.grows.terms c.list.new.self c.in_ok-list.ensures.counted)

pub returns-clause-listed : goal.returns-clause-listed
returns-clause-listed c = on_ok c.listed_left.result (c.in_ok-list.ensures.listed ∙ ap (map (λ (f : NumberedFact). f.term)) c.facts_of-facts.ensures)

pub returns-clause-left : goal.returns-clause-left
returns-clause-left c =
    let n = c.args.store.now in let us = c.list.new.store.terms in let g = c.in_ok-list.ensures.grows in
    let fs = ap (map (fact_at us)) c.facts_of-facts.ensures ∙ facts_stay n.terms us g.terms c.args.branch.now.facts c.requires.branch.facts in
    let vars = g.vars ∙ c.requires.vars in
    IfOk-weaker c.listed_left.result _ _ (λ o e. e ∙ (λ k. first_from (left_in_another (g.defs k) (record { facts = fs k; calls = []; marks = []; vars = vars k; next = 0 })) 0 (fs k))) c.listed_left.ensures.left
