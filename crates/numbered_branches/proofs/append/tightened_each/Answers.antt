use Rattle.std.proofs.Common.{◌<◌, length, arith}
use Rattle.term_bank.proofs.Numbers.{begins_length}
use Rattle.numbered_branches.proofs.Appending.{each_below, each_fact, each_step, all_facts, all_steps}
use Rattle.numbered_facts.proofs.Growing.{then}
use Rattle.numbered_branches.proofs.Listing.{all_at}
use Rattle.numbered_branches.proofs.append.tightened_each.Goals as goal

pub tightened-requires : goal.tightened-requires
tightened-requires c = let low = all_at (λ j. j < length c.args.store.now.terms) c.args.terms.now c.loop-term.term-index c.term-item.result c.requires.terms c.loop-term-test.true c.term-item.is in
    record { term = omega (arith, low, begins_length c.args.store.now.terms c.loop-term.store.terms c.loop-term.invariant.grows.terms); made = c.loop-term.invariant.over }

pub loop-term-preserved : goal.loop-term-preserved
loop-term-preserved c = let ts = c.args.store.now.terms in let us = c.loop-term.store.terms in let vs = c.tightened.new.store.terms in
    let b = c.loop-term.invariant.grows.terms in let g = c.in_ok-fact.ensures.grows.terms in
    record {
      grows = then c.args.store.now c.loop-term.store c.tightened.new.store c.loop-term.invariant.grows c.in_ok-fact.ensures.grows;
      over = c.in_ok-fact.ensures.made.0;
      below = each_below ts us vs b g c.args.terms.now c.loop-term.term-index c.term-item.result c.loop-term.number c.requires.terms c.loop-term-test.true c.term-item.is
          c.loop-term.made c.tightened.new.made c.loop-term.facts.items c.push.new.self.items c.in_ok-fact.fact c.loop-term.invariant.below c.in_ok-fact.ensures.fact c.in_ok-fact.ensures.made c.in_ok-push.ensures.items;
      number = omega (arith, c.loop-term.invariant.number);
      facts = each_fact ts us vs b g c.args.terms.now c.loop-term.term-index c.term-item.result c.loop-term.number c.requires.terms c.loop-term-test.true c.term-item.is
          c.loop-term.made c.tightened.new.made c.loop-term.facts.items c.push.new.self.items c.in_ok-fact.fact c.loop-term.invariant.below c.in_ok-fact.ensures.fact c.in_ok-fact.ensures.made c.in_ok-push.ensures.items _ c.loop-term.invariant.facts;
      made = each_step ts us vs b g c.args.terms.now c.loop-term.term-index c.term-item.result c.loop-term.number c.requires.terms c.loop-term-test.true c.term-item.is
          c.loop-term.made c.tightened.new.made c.loop-term.facts.items c.push.new.self.items c.in_ok-fact.fact c.loop-term.invariant.below c.in_ok-fact.ensures.fact c.in_ok-fact.ensures.made c.in_ok-push.ensures.items _ c.loop-term.invariant.made;
    }

pub returns-clause-facts : goal.returns-clause-facts
returns-clause-facts c = all_facts c.args.store.now.terms c.loop-term.store.terms c.args.terms.now c.loop-term.term-index c.loop-term.number c.loop-term-test.false c.loop-term.made c.loop-term.facts.items _ c.loop-term.invariant.below c.loop-term.invariant.facts

pub returns-clause-made : goal.returns-clause-made
returns-clause-made c = all_steps c.args.store.now.terms c.loop-term.store.terms c.args.terms.now c.loop-term.term-index c.loop-term.number c.loop-term-test.false c.loop-term.made c.loop-term.facts.items _ c.loop-term.invariant.over c.loop-term.invariant.made

pub returns-in_err-fact-clause-grows : goal.returns-in_err-fact-clause-grows
returns-in_err-fact-clause-grows c = then c.args.store.now c.loop-term.store c.tightened.new.store c.loop-term.invariant.grows c.tightened.ensures.grows

pub returns-in_err-push-clause-grows : goal.returns-in_err-push-clause-grows
returns-in_err-push-clause-grows c = then c.args.store.now c.loop-term.store c.tightened.new.store c.loop-term.invariant.grows c.in_ok-fact.ensures.grows
