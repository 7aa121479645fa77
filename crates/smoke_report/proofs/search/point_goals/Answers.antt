use Rattle.std.proofs.Common.{◌≡◌, ◌∙◌, sym, ap, arith, subst, ◌+◌, length, slice_get}
use Rattle.std.specs.Prelude.{IfOk, IfErr}
use Rattle.bpl_model.specs.Module.{Module}
use Rattle.bpl_model.specs.Typed.{IsTypedModule}
use Rattle.vc_build.specs.Goals.{goals_at}
use Rattle.vc_build.specs.Exceeds.{IsFaultOf}
use Rattle.smoke_report.specs.Smoke.{point_goals}
use Rattle.smoke_report.proofs.PointedGoals.{no_goto_behind, goals_of_point}
use Rattle.smoke_report.proofs.search.point_goals.Goals as goal

pub goals_at-requires : goal.goals_at-requires
goals_at-requires c =
    let m = c.args.module.now in
    let same = c.parts.ensures.same in
    let number : c.in_ok-p.p ≡ length m.procs + c.args.at = let a = c.in_ok-p.ensures in let b = c.len-own.ensures in let d = ap (λ (x : Module). length x.procs) (c.behind-module.view_is ∙ same) in omega (arith, a, b, d) in
    λ q there. no_goto_behind m (subst IsTypedModule same c.parts.ensures.typed) c.requires.forward c.args.points.now c.requires.of c.args.at c.args.point.now c.requires.there q
    ((λ i. slice_get (sym c.requires.links i).procs (sym number i)) ∙ there)

pub returns-clause-goals : goal.returns-clause-goals
returns-clause-goals c =
    let m = c.args.module.now in
    let same = c.parts.ensures.same in
    let number : c.in_ok-p.p ≡ length m.procs + c.args.at = let a = c.in_ok-p.ensures in let b = c.len-own.ensures in let d = ap (λ (x : Module). length x.procs) (c.behind-module.view_is ∙ same) in omega (arith, a, b, d) in
    let goals : goals_at c.args.links.now c.in_ok-p.p ≡ point_goals m c.args.point.now = (λ i. goals_at (c.requires.links i) (number i))
    ∙ goals_of_point m (subst IsTypedModule same c.parts.ensures.typed) c.requires.forward c.args.points.now c.requires.of c.args.at c.args.point.now c.requires.there in
    subst (λ gs. IfOk c.goals_at.result (λ s. s ≡ gs)) goals c.goals_at.ensures.goals

pub returns-clause-fault : goal.returns-clause-fault
returns-clause-fault c =
    let m = c.args.module.now in
    let same = c.parts.ensures.same in
    let number : c.in_ok-p.p ≡ length m.procs + c.args.at = let a = c.in_ok-p.ensures in let b = c.len-own.ensures in let d = ap (λ (x : Module). length x.procs) (c.behind-module.view_is ∙ same) in omega (arith, a, b, d) in
    let goals : goals_at c.args.links.now c.in_ok-p.p ≡ point_goals m c.args.point.now = (λ i. goals_at (c.requires.links i) (number i))
    ∙ goals_of_point m (subst IsTypedModule same c.parts.ensures.typed) c.requires.forward c.args.points.now c.requires.of c.args.at c.args.point.now c.requires.there in
    subst (λ gs. IfErr c.goals_at.result (IsFaultOf gs)) goals c.goals_at.ensures.fault
