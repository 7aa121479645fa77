use Rattle.logic_rules.proofs.MovesMade.{cases_more}
use Rattle.plain_search.proofs.splitting.cases_before.Goals as goal

pub returns : goal.returns
returns c = cases_more c.args.branch c.args.terms.items c.args.last _ _ _ c.in_ok-made.ensures c.in_ok-last.ensures c.in_ok-push.ensures.items
