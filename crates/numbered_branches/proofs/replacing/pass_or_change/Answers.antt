use Rattle.numbered_facts.proofs.Growing.{same}
use Rattle.numbered_branches.proofs.replacing.pass_or_change.Goals as goal

pub returns-then-is_passed-clause-grows : goal.returns-then-is_passed-clause-grows
returns-then-is_passed-clause-grows c = same c.args.store.now

pub returns-then-is_passed-clause-gives : goal.returns-then-is_passed-clause-gives
returns-then-is_passed-clause-gives c = c.is_passed.ensures c.if-is_passed.true
