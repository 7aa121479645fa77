use Rattle.edit_session.proofs.OneBody.{differ_at}
use Rattle.edit_session.proofs.changed.changed_one.Goals as goal

pub returns : goal.returns
returns c = differ_at c.args.at c.args.old.now c.args.new.now c.requires.other
