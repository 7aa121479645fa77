use Rattle.std.proofs.Common.{◌∙◌}
use Rattle.vc_rebuild.specs.Kept.{kept_of}
use Rattle.vc_rebuild.proofs.Digested.{is_kept, kept_step, is_built, built_step}
use Rattle.vc_rebuild.proofs.procedure.with_text.Goals as goal

pub returns-in_ok-built-in-Some-clause-told : goal.returns-in_ok-built-in-Some-clause-told
returns-in_ok-built-in-Some-clause-told g c = is_kept c.args.before.now.built.now.procs (kept_of c.args.links.now c.args.proc.now) c.args.text c.requires.text c.in-Some.kept.now c.in-Some.ensures

pub returns-in_ok-built-in-Some-clause-steps : goal.returns-in_ok-built-in-Some-clause-steps
returns-in_ok-built-in-Some-clause-steps g c = kept_step c.args.before.now.built.now.procs (kept_of c.args.links.now c.args.proc.now) c.args.text c.requires.text c.in-Some.kept.now c.in-Some.ensures c.args.steps.now

pub returns-in_ok-built-in-None-clause-told : goal.returns-in_ok-built-in-None-clause-told
returns-in_ok-built-in-None-clause-told g c = is_built c.args.before.now.built.now.procs (kept_of c.args.links.now c.args.proc.now) c.args.text c.requires.text c.in-None.ensures

pub returns-in_ok-built-in-None-clause-steps : goal.returns-in_ok-built-in-None-clause-steps
returns-in_ok-built-in-None-clause-steps g c = c.tick.ensures ∙ built_step c.args.before.now.built.now.procs (kept_of c.args.links.now c.args.proc.now) c.args.text c.requires.text c.in-None.ensures c.args.steps.now
