use Rattle.std.proofs.Common.{subst}
use Rattle.vc_rebuild.specs.Change.{AreButOne}
use Rattle.edit_session.proofs.changed.changed_from.Goals as goal

pub changed_one-requires-clause-there : goal.changed_one-requires-clause-there
changed_one-requires-clause-there c = (subst (λ o. AreButOne o c.args.old.now c.args.new.now) c.in-Some.is c.requires).there

pub changed_one-requires-clause-other : goal.changed_one-requires-clause-other
changed_one-requires-clause-other c = subst (λ o. AreButOne o c.args.old.now c.args.new.now) c.in-Some.is c.requires
