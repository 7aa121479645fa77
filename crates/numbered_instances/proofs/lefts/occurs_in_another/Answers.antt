use Rattle.std.proofs.Common.{true, false, length, arith}
use Rattle.term_bank.proofs.Numbers.{begins_length}
use Rattle.numbered_facts.proofs.Growing.{then}
use Rattle.numbered_branches.specs.Branches.{IsFactBelow}
use Rattle.numbered_branches.proofs.Listing.{all_at}
use Rattle.numbered_instances.proofs.LeftFacts.{facts_low, other_on}
use Rattle.numbered_instances.proofs.lefts.occurs_in_another.Goals as goal

pub rewrites-requires-clause-left : goal.rewrites-requires-clause-left
rewrites-requires-clause-left c = omega (arith, c.requires.left, begins_length c.args.store.now.terms c.loop-other.store.terms c.loop-other.invariant.grows.terms)

pub rewrites-requires-clause-other : goal.rewrites-requires-clause-other
rewrites-requires-clause-other c = let us = c.loop-other.store.terms in
    all_at (IsFactBelow (length us)) c.args.facts.now c.loop-other.other-index c.other-item.result (facts_low c.args.store.now.terms us c.loop-other.invariant.grows.terms c.args.facts.now c.requires.facts) c.loop-other-test.true c.other-item.is

pub returns-in_err-rewrites-clause-grows : goal.returns-in_err-rewrites-clause-grows
returns-in_err-rewrites-clause-grows c = then c.args.store.now c.loop-other.store c.rewrites.new.store c.loop-other.invariant.grows c.rewrites.ensures.grows

pub returns-then-branch-clause-grows : goal.returns-then-branch-clause-grows
returns-then-branch-clause-grows c = then c.args.store.now c.loop-other.store c.rewrites.new.store c.loop-other.invariant.grows c.in_ok-rewrites.ensures.grows

pub returns-then-branch-clause-gives : goal.returns-then-branch-clause-gives
returns-then-branch-clause-gives c = other_on c.args.store.now.terms c.loop-other.store.terms c.loop-other.invariant.grows.terms c.args.number c.args.left c.args.facts.now c.loop-other.other-index c.other-item.result c.in_ok-rewrites.field-0 true _ c.requires.left c.requires.facts c.loop-other-test.true c.other-item.is c.in_ok-rewrites.ensures.gives c.if-branch.true c.loop-other.invariant.same

pub loop-other-preserved : goal.loop-other-preserved
loop-other-preserved c = record {
  grows = then c.args.store.now c.loop-other.store c.rewrites.new.store c.loop-other.invariant.grows c.in_ok-rewrites.ensures.grows;
  same = other_on c.args.store.now.terms c.loop-other.store.terms c.loop-other.invariant.grows.terms c.args.number c.args.left c.args.facts.now c.loop-other.other-index c.other-item.result c.in_ok-rewrites.field-0 false _ c.requires.left c.requires.facts c.loop-other-test.true c.other-item.is c.in_ok-rewrites.ensures.gives c.if-branch.false c.loop-other.invariant.same;
}
