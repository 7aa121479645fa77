use Rattle.body_revision.proofs.HeadNames.{heads_declare}
use Rattle.body_revision.proofs.laws.heads_declare_all.Goals as goal

pub returns : goal.returns
returns c = heads_declare
