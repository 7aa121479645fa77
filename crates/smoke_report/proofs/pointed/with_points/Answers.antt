use Rattle.std.proofs.Common.{◌∙◌, sym, ap, subst}
use Rattle.bpl_model.specs.Module.{Module}
use Rattle.bpl_model.specs.Typed.{IsTypedModule}
use Rattle.smoke_report.specs.Pointed.{with_points}
use Rattle.smoke_report.proofs.PointedGoals.{with_points_typed}
use Rattle.smoke_report.proofs.pointed.with_points.Goals as goal

pub new-requires : goal.new-requires
new-requires c =
    let same = c.parts.ensures.same in
    subst IsTypedModule (sym (c.in_ok-changed.ensures ∙ ap (λ (x : Module). with_points x c.args.points.now) same))
    (with_points_typed c.args.module.now (subst IsTypedModule same c.parts.ensures.typed) c.requires.forward c.args.points.now c.requires.of)
