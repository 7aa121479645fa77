use Rattle.std.proofs.Common.{◌≡◌, sym, subst, ◌∙◌}
use Rattle.std.specs.Prelude.{Contains, IfOk}
use Rattle.std.proofs.lemmas.Result.{IfOk-weaker}
use Rattle.bpl_model.specs.Module.{Module, Proc}
use Rattle.bpl_model.specs.Typed.{IsTypedModule}
use Rattle.bpl_model.specs.NoGoto.{BodyHasNoGoto}
use Rattle.bpl_model.specs.Cut.{cut_calls}
use Rattle.call_cut.specs.Kept.{KeepsFailures}
use Rattle.call_cut.proofs.FailuresKept.{cut_calls_keeps_failures}
use Rattle.call_cut.proofs.procedure.cut_calls.Goals as goal

pub cut_over-requires : goal.cut_over-requires
cut_over-requires c = c.parts.ensures.typed.procs

pub returns-clause-exact : goal.returns-clause-exact
returns-clause-exact c = subst (λ (x : Module). IfOk c.cut_over.result (λ q. q ≡ cut_calls x c.args.p.now)) c.parts.ensures.same c.cut_over.ensures

pub returns-clause-kept : goal.returns-clause-kept
returns-clause-kept c =
    let m = c.args.module.now in
    let p = c.args.p.now in
    let same = c.parts.ensures.same in
    IfOk-weaker c.cut_over.result (λ q. q ≡ cut_calls c.parts.result.now p) (λ q. Contains m.procs p → BodyHasNoGoto p.body → KeepsFailures m p q)
    (λ q e has free. subst (λ (x : Proc). KeepsFailures m p x) (sym (e ∙ (λ i. cut_calls (same i) p))) (cut_calls_keeps_failures m p (subst IsTypedModule same c.parts.ensures.typed) has free))
    c.cut_over.ensures
