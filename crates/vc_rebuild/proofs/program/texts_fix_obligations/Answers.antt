use Rattle.vc_rebuild.proofs.KeptGoals.{texts_fix}
use Rattle.vc_rebuild.proofs.program.texts_fix_obligations.Goals as goal

pub returns : goal.returns
returns c = texts_fix c.equal_dependency_texts_have_equal_obligations.ensures c.args.old.now.procs c.args.new.now.procs c.is_built.ensures c.is_built-2.ensures
