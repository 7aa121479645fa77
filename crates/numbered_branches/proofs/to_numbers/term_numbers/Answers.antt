use Rattle.numbered_facts.proofs.Growing.{then}
use Rattle.numbered_branches.proofs.Standing.{terms_next}
use Rattle.numbered_branches.proofs.to_numbers.term_numbers.Goals as goal

pub loop-tree-preserved : goal.loop-tree-preserved
loop-tree-preserved c = record {
  grows = then c.args.store.now c.loop-tree.store c.number.new.self c.loop-tree.invariant.grows c.in_ok-one.ensures.grows;
  done = terms_next c.loop-tree.store.terms c.number.new.self.terms c.loop-tree.all.items c.push.new.self.items c.in_ok-one.one c.args.trees.now c.loop-tree.tree-index c.tree-item.result c.in_ok-one.ensures.grows.terms c.loop-tree-test.true c.tree-item.is c.loop-tree.invariant.done c.in_ok-one.ensures.gives.0 c.in_ok-one.ensures.gives.1 c.in_ok-push.ensures.items;
}

pub returns-in_err-one-clause-grows : goal.returns-in_err-one-clause-grows
returns-in_err-one-clause-grows c = then c.args.store.now c.loop-tree.store c.number.new.self c.loop-tree.invariant.grows c.number.ensures.grows

pub returns-in_err-push-clause-grows : goal.returns-in_err-push-clause-grows
returns-in_err-push-clause-grows c = then c.args.store.now c.loop-tree.store c.number.new.self c.loop-tree.invariant.grows c.in_ok-one.ensures.grows
