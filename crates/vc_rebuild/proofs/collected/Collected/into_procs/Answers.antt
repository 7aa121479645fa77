use Rattle.std.proofs.Common.{arith}
use Rattle.vc_rebuild.specs.Kept.{all_goals}
use Rattle.vc_rebuild.proofs.WithinLimits.{none_large}
use Rattle.vc_rebuild.proofs.collected.Collected.into_procs.Goals as goal

pub returns-clause-within : goal.returns-clause-within
returns-clause-within c = none_large (all_goals c.self.inside.procs.items) (omega (c.self.invariant.0, c.self.invariant.2, arith)) (omega (c.self.invariant.1, c.self.invariant.3, arith))
