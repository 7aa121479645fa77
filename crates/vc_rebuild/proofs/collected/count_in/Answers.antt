use Rattle.vc_rebuild.proofs.MarksInOrder.{as_many_goals}
use Rattle.vc_rebuild.proofs.collected.count_in.Goals as goal

pub returns : goal.returns
returns c = as_many_goals c.shared.result.now c.args.proc.now.goals c.shared.ensures
