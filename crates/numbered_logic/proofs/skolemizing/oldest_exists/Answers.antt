use Rattle.numbered_logic.proofs.ExistsFound.{exists_here}
use Rattle.numbered_logic.proofs.skolemizing.oldest_exists.Goals as goal

pub returns-in-Some : goal.returns-in-Some
returns-in-Some c =
    exists_here c.args.terms.now c.args.facts.now c.loop-at.at c.index-facts-at.result c.loop-at-test.true c.index-facts-at.is c.term_of-id.result c.term_of-id.ensures _ c.in-Some.found.0.now c.in-Some.found.1 c.in_ok-copies.copies c.found_in.result
    c.in-Some.ensures.is c.in-Some.ensures.within c.in_ok-copies.ensures c.found_in.ensures c.loop-at.invariant
