use Rattle.std.proofs.Common.{◌≡◌, ◌∙◌, ◌+◌, None, ap, sym, subst, flat_map, map}
use Rattle.std.specs.Prelude.{List, IfErr, IfOk, OnOk}
use Rattle.std.proofs.lemmas.Result.{IfOk-weaker}
use Rattle.bpl_model.specs.Module.{Module}
use Rattle.bpl_goto.specs.Removed.{remove_gotos}
use Rattle.vc_build.specs.declared.goal.Goal.{Goal}
use Rattle.vc_build.specs.Goals.{goals_by_passes}
use Rattle.vc_build.specs.Large.{large}
use Rattle.vc_build.specs.Exceeds.{IsFaultOf}
use Rattle.vc_build.specs.Rebuild.{with_body, built, rebuilt}
use Rattle.vc_rebuild.specs.Kept.{Program, kept_of, new_in, program_after}
use Rattle.vc_rebuild.specs.Inside.{AreBuilt, HaveNoGoto, TextsDecide}
use Rattle.vc_rebuild.proofs.Programs.{are_built, kept_built, kept_rebuilt, goals_left, without_gotos}
use Rattle.vc_rebuild.specs.Change.{IsPlainAt}
use Rattle.vc_rebuild.proofs.KeptGoals.{texts_decide}
use Rattle.vc_rebuild.proofs.OthersStay.{plain_at}
use Rattle.vc_rebuild.proofs.program.rebuild_changed.Goals as goal

abbrev goals_of : Module → List Goal
goals_of m = flat_map (goals_by_passes m) m.procs

pub rebuild_by-requires-clause-no_goto : goal.rebuild_by-requires-clause-no_goto
rebuild_by-requires-clause-no_goto g c = subst (λ (x : Module). HaveNoGoto x.procs) (sym (c.in_ok-links.ensures ∙ c.plain_of-plain.ensures)) (without_gotos c.args.module.now)

pub rebuild_by-requires-clause-decided : goal.rebuild_by-requires-clause-decided
rebuild_by-requires-clause-decided g c =
    let decided = texts_decide c.equal_dependency_texts_have_equal_obligations.ensures c.args.module.now c.requires.resolved c.args.old.now.procs c.is_built.ensures in
    subst (TextsDecide c.args.old.now.procs) (sym (c.in_ok-links.ensures ∙ c.plain_of-plain.ensures)) decided

pub rebuild_by-requires-clause-changed : goal.rebuild_by-requires-clause-changed
rebuild_by-requires-clause-changed g c =
    subst (IsPlainAt c.args.but c.args.old.now.procs) (sym (c.in_ok-links.ensures ∙ c.plain_of-plain.ensures)) (plain_at c.args.but c.args.old.now.procs c.args.module.now c.requires.changed)

pub rebuild_by-requires-clause-built : goal.rebuild_by-requires-clause-built
rebuild_by-requires-clause-built g c = subst (λ (x : Module). AreBuilt (map (kept_of x) (with_body x))) (sym (c.in_ok-links.ensures ∙ c.plain_of-plain.ensures)) (are_built c.args.module.now c.requires.resolved)

pub returns-clause-goals : goal.returns-clause-goals
returns-clause-goals g c =
    let m = c.args.module.now in
    let old = c.args.old.now.procs in
    IfOk-weaker c.rebuild_by.result (λ r. r.built ≡ program_after old (remove_gotos m)) (λ r. r.built.procs ≡ built m)
    (λ b e. ap (λ (x : Program). x.procs) e ∙ kept_built m)
    (subst (λ (x : Module). IfOk c.rebuild_by.result (λ r. r.built ≡ program_after old x)) (c.in_ok-links.ensures ∙ c.plain_of-plain.ensures) c.rebuild_by.ensures.program)

pub returns-clause-rebuilt : goal.returns-clause-rebuilt
returns-clause-rebuilt g c =
    let m = c.args.module.now in
    let old = c.args.old.now.procs in
    IfOk-weaker c.rebuild_by.result (λ r. r.built ≡ program_after old (remove_gotos m)) (λ r. r.built.rebuilt ≡ rebuilt old m)
    (λ b e. ap (λ (x : Program). x.rebuilt) e ∙ kept_rebuilt m old)
    (subst (λ (x : Module). IfOk c.rebuild_by.result (λ r. r.built ≡ program_after old x)) (c.in_ok-links.ensures ∙ c.plain_of-plain.ensures) c.rebuild_by.ensures.program)

pub returns-clause-within : goal.returns-clause-within
returns-clause-within g c =
    subst (λ gs. IfOk c.rebuild_by.result (λ b. large gs ≡ None)) (ap goals_of (c.in_ok-links.ensures ∙ c.plain_of-plain.ensures) ∙ goals_left c.args.module.now) c.rebuild_by.ensures.within

pub returns-clause-fault : goal.returns-clause-fault
returns-clause-fault g c =
    subst (λ gs. IfErr c.rebuild_by.result (IsFaultOf gs)) (ap goals_of (c.in_ok-links.ensures ∙ c.plain_of-plain.ensures) ∙ goals_left c.args.module.now) c.rebuild_by.ensures.fault

pub returns-clause-steps : goal.returns-clause-steps
returns-clause-steps g c =
    let m = c.args.module.now in
    let old = c.args.old.now.procs in
    subst (λ n. OnOk c.rebuild_by.result (c.rebuild_by.new.steps ≡ c.args.steps.now + n)) (ap (λ (x : Module). new_in old x x.procs) (c.in_ok-links.ensures ∙ c.plain_of-plain.ensures) ∙ kept_rebuilt m old) c.rebuild_by.ensures.steps
