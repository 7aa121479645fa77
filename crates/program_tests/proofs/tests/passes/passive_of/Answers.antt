use Rattle.std.proofs.Common.{◌≡◌, ◌<◌, ◌∙◌, ap, subst, length, get_or}
use Rattle.bpl_model.specs.Module.{Module}
use Rattle.program_tests.proofs.WithoutGotos.{none_at}
use Rattle.program_tests.proofs.tests.passes.passive_of.Goals as goal

pub passive_form_of-requires-clause-no_goto : goal.passive_form_of-requires-clause-no_goto
passive_form_of-requires-clause-no_goto c =
    let proc = c.in-Some.proc.now in
    let inside : c.behind-without.inside.procs.items ≡ c.parts.result.now.procs = cc (ap (λ (m : Module). m.procs) c.behind-without.view_is) in
    let procs = c.deref.ensures.value ∙ (inside ∙ (ap (λ (m : Module). m.procs) c.parts.ensures.same ∙ ap (λ (m : Module). m.procs) c.in_ok-without.ensures.exact)) in
    let there = c.in-Some.ensures.lookup.3 in
    none_at c.args.«module».now.procs 1 proc (subst (λ ps. 1 < length ps) procs there.0) (there.1 proc ∙ ap (λ ps. get_or ps 1 proc) procs)
