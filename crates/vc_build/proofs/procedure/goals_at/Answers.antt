use Rattle.std.proofs.Common.{◌≡◌, ◌∙◌, ap, subst}
use Rattle.std.specs.Prelude.{IfErr, None, Some, slice_get}
use Rattle.std.proofs.lemmas.Result.{IfOk-weaker}
use Rattle.bpl_model.specs.Module.{Module}
use Rattle.bpl_model.specs.Typed.{IsTypedModule}
use Rattle.vc_build.specs.Goals.{goals_by_passes, goals_of_found}
use Rattle.vc_build.specs.Exceeds.{IsFaultOf}
use Rattle.vc_build.specs.Sound.{HaveFailures}
use Rattle.vc_build.proofs.AtNumber.{failures_at}
use Rattle.vc_build.proofs.procedure.goals_at.Goals as goal

pub returns-in-Some-clause-failures : goal.returns-in-Some-clause-failures
returns-in-Some-clause-failures c =
    let m = c.args.links.now in
    let same = c.parts.ensures.same in
    let found : Some c.in-Some.proc.now ≡ slice_get m.procs c.args.p = c.in-Some.ensures ∙ ap (λ (x : Module). slice_get x.procs c.args.p) same in
    IfOk-weaker c.goals_over.result (λ gs. gs ≡ goals_by_passes m c.in-Some.proc.now) (λ gs. HaveFailures m c.args.p gs)
    (λ gs e. failures_at c.failures_have_goals_by_passes.ensures m c.args.p (subst IsTypedModule same c.parts.ensures.typed) c.requires gs (e ∙ ap (goals_of_found m) found)) c.goals_over.ensures.goals

pub returns-in-Some-clause-fault : goal.returns-in-Some-clause-fault
returns-in-Some-clause-fault c =
    let m = c.args.links.now in
    let found : Some c.in-Some.proc.now ≡ slice_get m.procs c.args.p = c.in-Some.ensures ∙ ap (λ (x : Module). slice_get x.procs c.args.p) c.parts.ensures.same in
    subst (λ gs. IfErr c.goals_over.result (IsFaultOf gs)) (ap (goals_of_found m) found) c.goals_over.ensures.fault

pub returns-in-None-clause-goals : goal.returns-in-None-clause-goals
returns-in-None-clause-goals c =
    let m = c.args.links.now in
    let found : None ≡ slice_get m.procs c.args.p = c.in-None.ensures ∙ ap (λ (x : Module). slice_get x.procs c.args.p) c.parts.ensures.same in
    c.new.ensures ∙ ap (goals_of_found m) found

pub returns-in-None-clause-failures : goal.returns-in-None-clause-failures
returns-in-None-clause-failures c =
    let m = c.args.links.now in
    let same = c.parts.ensures.same in
    let found : None ≡ slice_get m.procs c.args.p = c.in-None.ensures ∙ ap (λ (x : Module). slice_get x.procs c.args.p) same in
    failures_at c.failures_have_goals_by_passes.ensures m c.args.p (subst IsTypedModule same c.parts.ensures.typed) c.requires c.new.result (c.new.ensures ∙ ap (goals_of_found m) found)
