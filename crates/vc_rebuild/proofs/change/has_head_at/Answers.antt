use Rattle.vc_rebuild.proofs.Heads.{differs_got}
use Rattle.vc_rebuild.proofs.change.has_head_at.Goals as goal

pub returns-in-Some : goal.returns-in-Some
returns-in-Some c told = differs_got c.args.typed.now c.args.at c.texts_in.result.now c.in-Some.old.now c.args.text.now c.texts_in.ensures c.in-Some.ensures (c.has_head_of.ensures told)
