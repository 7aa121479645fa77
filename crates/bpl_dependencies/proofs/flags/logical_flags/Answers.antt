use Rattle.std.proofs.Common.{◌∙◌}
use Rattle.bpl_dependencies.specs.Reach.{edges_seen}
use Rattle.bpl_dependencies.proofs.Reaching.{logical_from}
use Rattle.bpl_dependencies.proofs.flags.logical_flags.Goals as goal

pub returns : goal.returns
returns c = c.in_ok-flags.ensures ∙ logical_from c.args.table.now (edges_seen c.args.edges.now) c.deref.result.now c.requires (c.deref.ensures.value ∙ c.in_ok-quantified.ensures)
