use Rattle.std.proofs.Common.{sym, subst}
use Rattle.vc_build.specs.Rebuild.{built}
use Rattle.vc_rebuild.specs.Change.{IsChangedAt}
use Rattle.body_revision.specs.Revision.{with_part}
use Rattle.body_revision.specs.declared.revised.ModulePart.{ModulePart}
use Rattle.edit_session.proofs.alone.body_at.Goals as goal

pub returns-in-Procedure : goal.returns-in-Procedure
returns-in-Procedure c =
    let m = c.args.typed.now in
    let r = c.args.revision.now in
    subst (λ (p : ModulePart). IsChangedAt c.changed_body.result (built m) (with_part p r.decl_at r.text m)) (sym c.in-Procedure.is) c.changed_body.ensures
