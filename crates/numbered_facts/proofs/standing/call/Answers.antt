use Rattle.std.proofs.Common.{sym}
use Rattle.numbered_terms.specs.Slots.{kept_at}
use Rattle.numbered_facts.proofs.Found.{not_none}
use Rattle.numbered_facts.proofs.standing.call.Goals as goal

pub returns-in-Some-clause-gives : goal.returns-in-Some-clause-gives
returns-in-Some-clause-gives c = (c.stand.ensures.right c.args.id c.in-Some.standing.now (sym c.in-Some.ensures)).call

pub returns-in-None-clause-gives : goal.returns-in-None-clause-gives
returns-in-None-clause-gives c = absurd (not_none (kept_at c.stand.new.memo.slots.items c.args.id) c.in_ok-stand.ensures.there c.in-None.ensures)
