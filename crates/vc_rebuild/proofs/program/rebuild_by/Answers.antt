use Rattle.std.proofs.Common.{subst}
use Rattle.vc_rebuild.specs.Change.{IsPlainAt}
use Rattle.vc_rebuild.proofs.program.rebuild_by.Goals as goal

pub rebuild_body-requires-clause-changed : goal.rebuild_body-requires-clause-changed
rebuild_body-requires-clause-changed g c = subst (λ o. IsPlainAt o c.args.old.now.procs c.args.links.now) c.in-Some.is c.requires.changed
