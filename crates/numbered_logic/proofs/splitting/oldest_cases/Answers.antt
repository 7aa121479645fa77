use Rattle.std.proofs.Common.{length}
use Rattle.numbered_branches.specs.Branches.{IsFactBelow}
use Rattle.numbered_branches.proofs.Listing.{all_at}
use Rattle.numbered_logic.proofs.Calls.{cases_here, cases_lacking}
use Rattle.numbered_logic.proofs.Later.{grows_then}
use Rattle.numbered_facts.proofs.Growing.{then}
use Rattle.numbered_logic.proofs.splitting.oldest_cases.Goals as goal

pub returns-in-Some-clause-found : goal.returns-in-Some-clause-found
returns-in-Some-clause-found c =
    let n = c.args.store.now in let m = c.loop-at.store in let o = c.cases_of.new.store in let f = c.index-facts-at.result in
    let low = all_at (IsFactBelow (length n.terms)) c.args.facts.now c.loop-at.at f c.requires c.loop-at-test.true c.index-facts-at.is in
    cases_here n m o c.loop-at.invariant.grows c.cases_of.ensures.grows c.args.facts.now c.loop-at.at f c.loop-at-test.true c.index-facts-at.is low _ c.in-Some.cases c.new.result (rw c.in-Some.is at c.in_ok-cases.ensures.cases) c.new.ensures c.loop-at.invariant.rest

pub loop-at-preserved : goal.loop-at-preserved
loop-at-preserved c =
    let n = c.args.store.now in let m = c.loop-at.store in let o = c.cases_of.new.store in let f = c.index-facts-at.result in let g = c.loop-at.invariant.grows in let h = c.cases_of.ensures.grows in
    let low = all_at (IsFactBelow (length n.terms)) c.args.facts.now c.loop-at.at f c.requires c.loop-at-test.true c.index-facts-at.is in
    record {
      grows = grows_then n m o g h;
      rest = cases_lacking n m o g h c.args.facts.now c.loop-at.at f c.loop-at-test.true c.index-facts-at.is low _ (rw c.in_default.is at c.in_ok-cases.ensures.cases) c.loop-at.invariant.rest;
    }

pub returns-in_err-cases-clause-grows : goal.returns-in_err-cases-clause-grows
returns-in_err-cases-clause-grows c = then c.args.store.now c.loop-at.store c.cases_of.new.store c.loop-at.invariant.grows c.cases_of.ensures.grows

pub returns-in-Some-clause-grows : goal.returns-in-Some-clause-grows
returns-in-Some-clause-grows c = then c.args.store.now c.loop-at.store c.cases_of.new.store c.loop-at.invariant.grows c.cases_of.ensures.grows
