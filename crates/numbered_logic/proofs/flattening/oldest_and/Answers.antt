use Rattle.std.proofs.Common.{length}
use Rattle.numbered_branches.specs.Branches.{IsFactBelow}
use Rattle.numbered_branches.proofs.Listing.{all_at}
use Rattle.numbered_logic.proofs.Calls.{and_here}
use Rattle.numbered_logic.proofs.flattening.oldest_and.Goals as goal

pub returns-in-Some : goal.returns-in-Some
returns-in-Some c =
    let ts = c.args.terms.now in let f = c.index-facts-at.result in
    let low = all_at (IsFactBelow (length ts)) c.args.facts.now c.loop-at.at f c.requires c.loop-at-test.true c.index-facts-at.is in
    and_here ts c.args.facts.now c.loop-at.at f c.loop-at-test.true c.index-facts-at.is low c.term_of-id.result c.term_of-id.ensures _ c.in-Some.parts.now c.in_ok-parts.parts c.new.result c.in-Some.ensures.is c.in-Some.ensures.within c.in_ok-parts.ensures c.new.ensures c.loop-at.invariant
