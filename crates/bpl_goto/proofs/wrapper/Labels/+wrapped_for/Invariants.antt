use Rattle.bpl_model.specs.Nodes.{stmt_nodes}
use Rattle.bpl_goto.proofs.wrapper.Labels.+wrapped_for.Given as goal

abbrev pub decreases-wrapped_for : goal.decreases-wrapped_for
decreases-wrapped_for l = stmt_nodes l.next.now
