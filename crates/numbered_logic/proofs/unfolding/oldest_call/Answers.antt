use Rattle.std.proofs.Common.{length}
use Rattle.numbered_branches.specs.Branches.{IsFactBelow}
use Rattle.numbered_branches.proofs.Listing.{all_at}
use Rattle.numbered_logic.proofs.Calls.{call_here}
use Rattle.numbered_facts.proofs.Growing.{then}
use Rattle.numbered_logic.proofs.unfolding.oldest_call.Goals as goal

pub returns-in-Some-clause-found : goal.returns-in-Some-clause-found
returns-in-Some-clause-found c =
    let n = c.args.store.now in let m = c.loop-at.store in let o = c.call.new.self in let f = c.index-facts-at.result in
    let low = all_at (IsFactBelow (length n.terms)) c.args.facts.now c.loop-at.at f c.requires c.loop-at-test.true c.index-facts-at.is in
    call_here n m o c.loop-at.invariant.grows c.call.ensures.grows c.args.facts.now c.loop-at.at f c.loop-at-test.true c.index-facts-at.is low c.term_of-id.result c.term_of-id.ensures _ c.in-Some.call c.new.result (rw c.in-Some.is at c.in_ok-call.ensures.gives) c.new.ensures c.loop-at.invariant.rest

pub returns-in_err-call-clause-grows : goal.returns-in_err-call-clause-grows
returns-in_err-call-clause-grows c = then c.args.store.now c.loop-at.store c.call.new.self c.loop-at.invariant.grows c.call.ensures.grows

pub returns-in-Some-clause-grows : goal.returns-in-Some-clause-grows
returns-in-Some-clause-grows c = then c.args.store.now c.loop-at.store c.call.new.self c.loop-at.invariant.grows c.call.ensures.grows
