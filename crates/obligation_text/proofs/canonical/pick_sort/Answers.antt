use Rattle.obligation_text.proofs.Places.{none_picked}
use Rattle.obligation_text.proofs.canonical.pick_sort.Goals as goal

pub returns-in-None : goal.returns-in-None
returns-in-None c = none_picked c.args.sorts.now c.args.number c.args.found.now.items c.in-None.ensures.lookup.3
