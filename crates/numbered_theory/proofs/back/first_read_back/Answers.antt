use Rattle.std.proofs.Common.{◌≡◌, true}
use Rattle.tableau_branch.specs.Branch.{gives}
use Rattle.tableau_branch.specs.Shapes.{is_access}
use Rattle.term_bank.specs.Numbered.{at}
use Rattle.numbered_theory.specs.Reads.{read_at}
use Rattle.numbered_theory.proofs.ReadsTried.{term_taken}
use Rattle.numbered_facts.proofs.Growing.{then}
use Rattle.numbered_theory.proofs.back.first_read_back.Goals as goal

pub returns-in-Some-clause-reads : goal.returns-in-Some-clause-reads
returns-in-Some-clause-reads c =
    let n = c.args.store.now in let m = c.loop-id.store in
    let x = c.id-item.result in
    let is_read : is_access (at m.terms x) ≡ true = cc (c.if-is_access.ensures, c.terms.ensures) in
    let here = rw c.in-Some.is at c.in_ok-found.ensures.reads in
    (here.0, term_taken n m c.loop-id.invariant.grows c.args.ids.now c.loop-id.id-index x (gives (read_at c.try_access.new.store.terms c.in-Some.found)) c.requires c.loop-id-test.true c.id-item.is tt is_read here.1 c.loop-id.invariant.first)

pub returns-in_err-found-clause-grows : goal.returns-in_err-found-clause-grows
returns-in_err-found-clause-grows c = then c.args.store.now c.loop-id.store c.try_access.new.store c.loop-id.invariant.grows c.try_access.ensures.grows

pub returns-in-Some-clause-grows : goal.returns-in-Some-clause-grows
returns-in-Some-clause-grows c = then c.args.store.now c.loop-id.store c.try_access.new.store c.loop-id.invariant.grows c.in_ok-found.ensures.grows

pub returns-clause-grows : goal.returns-clause-grows
returns-clause-grows c = c.loop-id.invariant.grows
