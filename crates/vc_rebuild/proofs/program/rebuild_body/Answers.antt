use Rattle.std.proofs.Common.{subst}
use Rattle.vc_rebuild.specs.Change.{IsOwnAlone}
use Rattle.vc_rebuild.proofs.program.rebuild_body.Goals as goal

pub rebuild_one-requires-clause-alone : goal.rebuild_one-requires-clause-alone
rebuild_one-requires-clause-alone g c = subst (IsOwnAlone c.args.links.now c.args.body) c.procs_of.ensures (c.in_ok-is_so.ensures c.if-is_so.true)
