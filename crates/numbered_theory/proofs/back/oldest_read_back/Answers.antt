use Rattle.std.proofs.Common.{◌∙◌, sym, ap}
use Rattle.tableau_branch.specs.Branch.{leaves, gives}
use Rattle.numbered_branches.specs.Branches.{NumberedFact}
use Rattle.numbered_theory.specs.Reads.{read_at, ReadsBackAt}
use Rattle.numbered_facts.proofs.Growing.{then}
use Rattle.numbered_theory.proofs.Loops.{from_err}
use Rattle.numbered_theory.proofs.ReadsTried.{from_facts, fact_passed, fact_taken}
use Rattle.numbered_theory.proofs.back.oldest_read_back.Goals as goal

pub returns-in_err-found-clause-reads : goal.returns-in_err-found-clause-reads
returns-in_err-found-clause-reads c =
    let n = c.args.store.now in let fs = c.args.facts.now in let x = c.fact-item.result in
    let is = ap (λ (f : NumberedFact). f.term) c.fact.view_is in
    from_err (λ r. ReadsBackAt c.read_back_in.new.store.terms r (from_facts n fs)) c.from_residual.result c.in_err-found.field-0.0 c.from_residual.ensures.1 (λ d same wide.
    fact_taken n c.loop-fact.store c.loop-fact.invariant.grows fs c.loop-fact.fact-index x c.requires c.loop-fact-test.true c.fact-item.is c.fact.inside.term is leaves tt (c.in_err-found.ensures.reads x.number (sym same ∙ wide)) c.loop-fact.invariant.first)

pub returns-in-Some-clause-reads : goal.returns-in-Some-clause-reads
returns-in-Some-clause-reads c =
    let n = c.args.store.now in let x = c.fact-item.result in
    let is = ap (λ (f : NumberedFact). f.term) c.fact.view_is in
    let here = rw c.in-Some.is at (c.in_ok-found.ensures.reads x.number) in
    (here.0, fact_taken n c.loop-fact.store c.loop-fact.invariant.grows c.args.facts.now c.loop-fact.fact-index x c.requires c.loop-fact-test.true c.fact-item.is c.fact.inside.term is (gives (read_at c.read_back_in.new.store.terms c.in-Some.found)) tt here.1 c.loop-fact.invariant.first)

pub loop-fact-preserved : goal.loop-fact-preserved
loop-fact-preserved c =
    let n = c.args.store.now in let x = c.fact-item.result in
    let is = ap (λ (f : NumberedFact). f.term) c.fact.view_is in
    let here = rw c.in_default.is at (c.in_ok-found.ensures.reads x.number) in
    record {
      grows = then n c.loop-fact.store c.read_back_in.new.store c.loop-fact.invariant.grows c.in_ok-found.ensures.grows;
      first = fact_passed n c.loop-fact.store c.loop-fact.invariant.grows c.args.facts.now c.loop-fact.fact-index x c.requires c.loop-fact-test.true c.fact-item.is c.fact.inside.term is here c.loop-fact.invariant.first;
    }

pub returns-in_err-found-clause-grows : goal.returns-in_err-found-clause-grows
returns-in_err-found-clause-grows c = then c.args.store.now c.loop-fact.store c.read_back_in.new.store c.loop-fact.invariant.grows c.read_back_in.ensures.grows

pub returns-in-Some-clause-grows : goal.returns-in-Some-clause-grows
returns-in-Some-clause-grows c = then c.args.store.now c.loop-fact.store c.read_back_in.new.store c.loop-fact.invariant.grows c.in_ok-found.ensures.grows

pub returns-clause-grows : goal.returns-clause-grows
returns-clause-grows c = c.loop-fact.invariant.grows
