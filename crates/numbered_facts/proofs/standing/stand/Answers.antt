use Rattle.numbered_forms.proofs.Memos.{kept_more, kept_alike}
use Rattle.numbered_facts.specs.Memos.{IsStanding}
use Rattle.numbered_facts.proofs.Found.{there_now}
use Rattle.numbered_facts.proofs.standing.stand.Goals as goal

pub returns-in_err-keep_standing-clause-right : goal.returns-in_err-keep_standing-clause-right
returns-in_err-keep_standing-clause-right c = kept_alike (IsStanding c.args.terms.now) c.args.memo.now.slots.items c.keep_standing.new.memo.slots.items c.in_err-keep_standing.ensures.memory c.requires.right

pub returns-clause-right : goal.returns-clause-right
returns-clause-right c = kept_more (IsStanding c.args.terms.now) c.args.memo.now.slots.items c.keep_standing.new.memo.slots.items c.args.id c.in_ok-standing.standing c.in_ok-keep_standing.ensures.ok c.requires.right c.in_ok-standing.ensures

pub returns-clause-there : goal.returns-clause-there
returns-clause-there c = there_now c.args.id c.in_ok-standing.standing c.args.memo.now.slots.items c.keep_standing.new.memo.slots.items c.in_ok-keep_standing.ensures.ok
