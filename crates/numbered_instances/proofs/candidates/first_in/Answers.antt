use Rattle.std.proofs.Common.{◌≡◌, ◌∙◌, ◌<◌, sym, ap, find, map, option_map, length}
use Rattle.std.specs.List.{AllByRecursion}
use Rattle.logic_rules.specs.Instantiating.{is_unmarked, candidates_of}
use Rattle.numbered_terms.specs.Lists.{terms_at}
use Rattle.numbered_forms.proofs.LongerStores.{terms_stay}
use Rattle.numbered_branches.specs.Branches.{IsFactBelow, branch_at, fact_at}
use Rattle.numbered_branches.proofs.Changing.{branch_more}
use Rattle.numbered_branches.proofs.Listing.{all_at}
use Rattle.numbered_branches.proofs.Standing.{fact_stays}
use Rattle.numbered_instances.specs.Candidates.{candidate_at}
use Rattle.numbered_instances.proofs.FactTuples.{found_here, found_later}
use Rattle.numbered_facts.proofs.Growing.{then}
use Rattle.numbered_instances.proofs.candidates.first_in.Goals as goal

pub returns-in-Some-clause-first : goal.returns-in-Some-clause-first
returns-in-Some-clause-first c =
    let ts = c.args.store.now.terms in let us = c.loop-fact.store.terms in let vs = c.first_at.new.store.terms in
    let x = c.args.branch.now in let fs = c.args.facts.now in let i = c.loop-fact.fact-index in let f = c.fact-item.result in
    let B = branch_at ts x in let G = terms_at ts c.args.ground.now in let g = c.loop-fact.invariant.grows in
    let w = all_at (IsFactBelow (length ts)) fs i f c.requires.facts c.loop-fact-test.true c.fact-item.is in
    let bb = (branch_more ts us g.terms x c.requires.branch).1 in
    let gg = terms_stay ts us g.terms c.args.ground.now c.requires.ground in
    let ff = (fact_stays ts us g.terms f w).1 in
    let found = c.in_ok-found.ensures.first ∙ (λ k. find (is_unmarked (bb k)) (candidates_of (g.defs k) (bb k) (gg k) (ff k))) in
    sym (found_here (is_unmarked B) (candidates_of c.args.store.now.defs B G) ts fs i f c.loop-fact-test.true c.fact-item.is (option_map (candidate_at vs) c.in_ok-found.field-0) found _ (ap (option_map (candidate_at vs)) c.in-Some.is))
    ∙ c.loop-fact.invariant.same

pub loop-fact-preserved : goal.loop-fact-preserved
loop-fact-preserved c =
    let ts = c.args.store.now.terms in let us = c.loop-fact.store.terms in let vs = c.first_at.new.store.terms in
    let x = c.args.branch.now in let fs = c.args.facts.now in let i = c.loop-fact.fact-index in let f = c.fact-item.result in
    let B = branch_at ts x in let G = terms_at ts c.args.ground.now in let g = c.loop-fact.invariant.grows in
    let w = all_at (IsFactBelow (length ts)) fs i f c.requires.facts c.loop-fact-test.true c.fact-item.is in
    let bb = (branch_more ts us g.terms x c.requires.branch).1 in
    let gg = terms_stay ts us g.terms c.args.ground.now c.requires.ground in
    let ff = (fact_stays ts us g.terms f w).1 in
    let found = c.in_ok-found.ensures.first ∙ (λ k. find (is_unmarked (bb k)) (candidates_of (g.defs k) (bb k) (gg k) (ff k))) in
    record {
      grows = then c.args.store.now c.loop-fact.store c.first_at.new.store g c.first_at.ensures.grows;
      same = found_later (is_unmarked B) (candidates_of c.args.store.now.defs B G) ts fs i f c.loop-fact-test.true c.fact-item.is (option_map (candidate_at vs) c.in_ok-found.field-0) found (ap (option_map (candidate_at vs)) c.in_default.is) ∙ c.loop-fact.invariant.same;
    }
