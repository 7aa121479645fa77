use Rattle.std.proofs.Common.{append_assoc}
use Rattle.tableau_branch.proofs.Lists.{drop_item}
use Rattle.plain_search.proofs.back.accesses.Goals as goal

pub loop-fact-preserved : goal.loop-fact-preserved
loop-fact-preserved c =
    let i = c.loop-fact.fact-index in
    let item = drop_item c.args.facts.now i c.fact-item.result c.loop-fact-test.true c.fact-item.is in
    let rest = rw item at c.loop-fact.invariant in
    let pushed = c.in_ok-push_outside.ensures in
    rw (pushed, c.term.ensures, append_assoc) rest
