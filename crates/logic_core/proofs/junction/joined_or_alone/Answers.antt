use Rattle.std.proofs.Common.{◌∙◌, arith}
use Rattle.logic_core.proofs.Junctions.{several}
use Rattle.logic_core.proofs.junction.joined_or_alone.Goals as goal

pub returns-then-len-gt1 : goal.returns-then-len-gt1
returns-then-len-gt1 c = c.joined.ensures ∙ several c.args.connective c.args.parts.items (omega arith)
