use Rattle.std.proofs.Common.{ap}
use Rattle.std.specs.Prelude.{is_some}
use Rattle.body_revision.specs.Procedures.{is_implementation}
use Rattle.body_revision.proofs.heads.is_other_implementation.Goals as goal

pub returns-in-None-clause-told : goal.returns-in-None-clause-told
returns-in-None-clause-told c r = cc (ap is_implementation r.old, c.head_of.ensures.told, ap is_some c.in-None.is)

pub returns-in-None-head_of-clause-told : goal.returns-in-None-head_of-clause-told
returns-in-None-head_of-clause-told c r = cc (ap is_implementation r.new, c.head_of-in-Some.ensures.told, ap is_some c.in-None-head_of.is)
