use Rattle.std.proofs.Common.{arith}
use Rattle.numbered_branches.specs.Branches.{NumberedFact}
use Rattle.numbered_branches.proofs.Listing.{map_next, map_end}
use Rattle.numbered_instances.proofs.shared.list_again.Goals as goal

pub loop-fact-preserved : goal.loop-fact-preserved
loop-fact-preserved c = map_next (λ (f : NumberedFact). f.term) c.args.facts.now c.loop-fact.fact-index c.fact-item.result c.loop-fact.listed.items c.push.new.self.items c.term_of-id.result c.loop-fact-test.true c.fact-item.is c.loop-fact.invariant c.term_of-id.ensures c.in_ok-push.ensures.items

pub returns : goal.returns
returns c = map_end (λ (f : NumberedFact). f.term) c.args.facts.now c.loop-fact.fact-index c.loop-fact.listed.items (omega (arith, c.loop-fact-test.false)) c.loop-fact.invariant
