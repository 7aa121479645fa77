use Rattle.std.proofs.Common.{◌∙◌}
use Rattle.vc_rebuild.specs.Kept.{kept_of}
use Rattle.vc_rebuild.proofs.Digested.{there_is_kept, there_no_step}
use Rattle.vc_rebuild.proofs.procedure.made_proc.Goals as goal

pub returns-in_ok-built-in-Some-clause-told : goal.returns-in_ok-built-in-Some-clause-told
returns-in_ok-built-in-Some-clause-told g c =
    there_is_kept c.args.before.now.built.now.procs (kept_of c.args.links.now c.args.proc.now) c.as_slice.result.now (c.as_slice.ensures.value ∙ c.in_ok-text.ensures) c.args.place c.in-Some.kept.now c.in-Some.ensures

pub returns-in_ok-built-in-Some-clause-steps : goal.returns-in_ok-built-in-Some-clause-steps
returns-in_ok-built-in-Some-clause-steps g c =
    there_no_step c.args.before.now.built.now.procs (kept_of c.args.links.now c.args.proc.now) c.as_slice.result.now (c.as_slice.ensures.value ∙ c.in_ok-text.ensures) c.args.place c.in-Some.kept.now c.in-Some.ensures c.args.steps.now
