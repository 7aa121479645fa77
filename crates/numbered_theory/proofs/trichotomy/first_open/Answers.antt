use Rattle.std.proofs.Common.{◌∙◌, sym, length}
use Rattle.numbered_theory.specs.Places.{IsPlaceBelow, FindsAt}
use Rattle.numbered_branches.proofs.Changing.{branch_more}
use Rattle.numbered_branches.proofs.Growing.{below}
use Rattle.numbered_branches.proofs.Listing.{all_at}
use Rattle.numbered_facts.proofs.Growing.{then}
use Rattle.numbered_theory.proofs.Loops.{from_err}
use Rattle.numbered_theory.proofs.OpenTried.{open_from, open_passed, open_wide, open_found}
use Rattle.numbered_theory.proofs.trichotomy.first_open.Goals as goal

pub open_ways-requires-clause-branch : goal.open_ways-requires-clause-branch
open_ways-requires-clause-branch c = (branch_more c.args.store.now.terms c.loop-place.store.terms c.loop-place.invariant.grows.terms c.args.branch.now c.requires.branch).0

pub open_ways-requires-clause-vars : goal.open_ways-requires-clause-vars
open_ways-requires-clause-vars c = c.loop-place.invariant.grows.vars ∙ c.requires.vars

pub open_ways-requires-clause-d : goal.open_ways-requires-clause-d
open_ways-requires-clause-d c =
    let n = c.args.store.now in
    let place = all_at (IsPlaceBelow (length n.terms)) c.args.places.now c.loop-place.place-index c.place-item.result c.requires.places c.loop-place-test.true c.place-item.is in
    below n c.loop-place.store (c.place-item.result).what c.loop-place.invariant.grows place.what

pub returns-in_err-ways-clause-finds : goal.returns-in_err-ways-clause-finds
returns-in_err-ways-clause-finds c =
    let n = c.args.store.now in let code = c.args.branch.now in let ps = c.args.places.now in
    from_err (λ r. FindsAt c.open_ways.new.store.terms r (open_from n code ps)) c.from_residual.result c.in_err-ways.field-0.0 c.from_residual.ensures.1
    (λ d same wide. open_wide n c.loop-place.store c.loop-place.invariant.grows code c.requires.branch ps c.loop-place.place-index c.place-item.result c.requires.places c.loop-place-test.true c.place-item.is (c.in_err-ways.ensures.opens (sym same ∙ wide)) c.loop-place.invariant.first)

pub returns-in-Some-clause-finds : goal.returns-in-Some-clause-finds
returns-in-Some-clause-finds c =
    let here = rw c.in-Some.is at c.in_ok-ways.ensures.opens in
    let found = open_found c.args.store.now c.loop-place.store c.loop-place.invariant.grows c.args.branch.now c.requires.branch c.args.places.now c.loop-place.place-index c.place-item.result c.requires.places c.loop-place-test.true c.place-item.is
    c.open_ways.new.store c.in-Some.ways c.in_ok-ways.ensures.grows here.1 c.loop-place.invariant.first in
    (found.0, (here.0, found.1))

pub loop-place-preserved : goal.loop-place-preserved
loop-place-preserved c =
    let n = c.args.store.now in
    let here = rw c.in_default.is at c.in_ok-ways.ensures.opens in
    record {
      grows = then n c.loop-place.store c.open_ways.new.store c.loop-place.invariant.grows c.in_ok-ways.ensures.grows;
      first = open_passed n c.loop-place.store c.loop-place.invariant.grows c.args.branch.now c.requires.branch c.args.places.now c.loop-place.place-index c.place-item.result c.requires.places c.loop-place-test.true c.place-item.is here c.loop-place.invariant.first;
    }

pub returns-in_err-ways-clause-grows : goal.returns-in_err-ways-clause-grows
returns-in_err-ways-clause-grows c = then c.args.store.now c.loop-place.store c.open_ways.new.store c.loop-place.invariant.grows c.open_ways.ensures.grows

pub returns-in-Some-clause-grows : goal.returns-in-Some-clause-grows
returns-in-Some-clause-grows c = then c.args.store.now c.loop-place.store c.open_ways.new.store c.loop-place.invariant.grows c.in_ok-ways.ensures.grows

pub returns-clause-grows : goal.returns-clause-grows
returns-clause-grows c = c.loop-place.invariant.grows
