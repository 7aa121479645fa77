use Rattle.std.proofs.Common.{◌∙◌, sym}
use Rattle.tableau_branch.proofs.Lists.{drop_item}
use Rattle.logic_rules.specs.Instantiating.{is_unmarked, candidates_of}
use Rattle.logic_rules.proofs.Instances.{fact_taken, fact_passed}
use Rattle.plain_search.proofs.instantiating.first_in.Goals as goal

pub returns-in-Some : goal.returns-in-Some
returns-in-Some c = let i = c.loop-fact.fact-index in let fs = c.args.facts.now in let b = c.args.branch.now in
    sym (fact_taken (is_unmarked b) (candidates_of c.args.defs.now b c.args.ground.now) fs i c.fact-item.result c.in_ok-found.field-0 (drop_item fs i c.fact-item.result c.loop-fact-test.true c.fact-item.is) c.in_ok-found.ensures c.in-Some.found c.in-Some.is) ∙ c.loop-fact.invariant

pub loop-fact-preserved : goal.loop-fact-preserved
loop-fact-preserved c = let i = c.loop-fact.fact-index in let fs = c.args.facts.now in let b = c.args.branch.now in
    fact_passed (is_unmarked b) (candidates_of c.args.defs.now b c.args.ground.now) fs i c.fact-item.result c.in_ok-found.field-0 (drop_item fs i c.fact-item.result c.loop-fact-test.true c.fact-item.is) c.in_ok-found.ensures c.in_default.is ∙ c.loop-fact.invariant
