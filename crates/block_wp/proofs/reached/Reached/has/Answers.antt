use Rattle.std.proofs.Common.{◌∙◌, ap, is_some}
use Rattle.block_wp.proofs.Tables.{has_number}
use Rattle.block_wp.proofs.reached.Reached.has.Goals as goal

pub returns : goal.returns
returns c = c.is_some.ensures ∙ ap is_some c.number.ensures ∙ has_number c.args.self.now c.requires c.args.block
