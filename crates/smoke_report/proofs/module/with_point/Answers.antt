use Rattle.std.proofs.Common.{sym, subst}
use Rattle.bpl_model.specs.Typed.{IsTypedModule}
use Rattle.smoke_report.proofs.module.with_point.Goals as goal

pub new-requires : goal.new-requires
new-requires c = subst IsTypedModule (sym c.in_ok-parts_with_point.ensures) (c.with_point_stays_typed.ensures c.parts.result.now c.args.p c.args.n c.parts.ensures.typed)
