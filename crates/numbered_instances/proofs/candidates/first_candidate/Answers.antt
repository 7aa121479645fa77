use Rattle.std.proofs.Common.{◌≡◌, ◌∙◌, ◌<◌, sym, ap, subst, not, true, false, find, flat_map, map, length}
use Rattle.std.specs.List.{list_any, AllByRecursion}
use Rattle.std.proofs.lemmas.Result.{IfOk-weaker}
use Rattle.term_bank.specs.Numbered.{at}
use Rattle.tableau_branch.specs.Branch.{Fact}
use Rattle.logic_rules.specs.Instantiating.{is_unmarked, candidates_of, ground_terms}
use Rattle.numbered_branches.specs.Branches.{NumberedFact, IsFactBelow, branch_at, fact_at}
use Rattle.numbered_branches.proofs.Changing.{branch_more}
use Rattle.numbered_instances.specs.Instances.{is_for_all}
use Rattle.numbered_instances.proofs.FactTuples.{any_map, not_true, no_candidates}
use Rattle.numbered_instances.proofs.LeftFacts.{facts_low, facts_stay}
use Rattle.numbered_terms.specs.Lists.{terms_at}
use Rattle.numbered_instances.proofs.candidates.first_candidate.Goals as goal

pub returns-then-no_for_all-clause-first : goal.returns-then-no_for_all-clause-first
returns-then-no_for_all-clause-first c =
    let ts = c.args.store.now.terms in let B = branch_at ts c.args.branch.now in
    let none : not (list_any (λ (f : NumberedFact). is_for_all (at ts f.term)) c.args.branch.now.facts) ≡ true =
    (λ k. not (list_any (λ (f : NumberedFact). is_for_all (at (sym c.terms.ensures k) f.term)) (sym c.facts_of-facts.ensures k))) ∙ sym c.no_for_all.ensures ∙ c.if-no_for_all.true in
    sym (ap (find (is_unmarked B)) (no_candidates c.args.store.now.defs B (ground_terms B) B.facts (any_map (λ (f : Fact). is_for_all f.term) (fact_at ts) c.args.branch.now.facts ∙ not_true _ none)))

pub first_in-requires-clause-branch : goal.first_in-requires-clause-branch
first_in-requires-clause-branch c = (branch_more c.args.store.now.terms c.list_ground.new.store.terms c.in_ok-list_ground.ensures.grows.terms c.args.branch.now c.requires.branch).0

pub first_in-requires-clause-facts : goal.first_in-requires-clause-facts
first_in-requires-clause-facts c = let ts = c.args.store.now.terms in let us = c.list_ground.new.store.terms in
    subst (AllByRecursion (IsFactBelow (length us))) (sym c.facts_of-facts.ensures) (facts_low ts us c.in_ok-list_ground.ensures.grows.terms c.args.branch.now.facts c.requires.branch.facts)

pub returns-clause-first : goal.returns-clause-first
returns-clause-first c =
    let ts = c.args.store.now.terms in let us = c.list_ground.new.store.terms in let x = c.args.branch.now in
    let g = c.in_ok-list_ground.ensures.grows in
    let bb = (branch_more ts us g.terms x c.requires.branch).1 in
    let gg = ap (terms_at us) c.members-ground.ensures ∙ c.in_ok-list_ground.ensures.ground.1 in
    let fs = ap (map (fact_at us)) c.facts_of-facts.ensures ∙ facts_stay ts us g.terms x.facts c.requires.branch.facts in
    IfOk-weaker c.first_in.result _ _ (λ o e. e ∙ (λ k. find (is_unmarked (bb k)) (flat_map (candidates_of (g.defs k) (bb k) (gg k)) (fs k)))) c.first_in.ensures.first
