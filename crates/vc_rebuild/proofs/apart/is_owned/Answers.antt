use Rattle.std.proofs.Common.{◌∙◌, sym}
use Rattle.vc_rebuild.proofs.OwnAlone.{plain_own}
use Rattle.vc_rebuild.proofs.apart.is_owned.Goals as goal

pub returns-then-is_plain : goal.returns-then-is_plain
returns-then-is_plain c = c.is_called.ensures ∙ plain_own c.args.name.now c.args.proc.now.name (sym c.is_plain.ensures ∙ c.if-is_plain.true)
