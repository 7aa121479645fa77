use Rattle.std.proofs.Common.{subst}
use Rattle.vc_rebuild.specs.Looked.{AreDigests}
use Rattle.vc_rebuild.proofs.candidate.found_by.Goals as goal

pub with_text-requires : goal.with_text-requires
with_text-requires c = subst (λ o. AreDigests o c.args.procs.now) c.in-Some.is c.requires
