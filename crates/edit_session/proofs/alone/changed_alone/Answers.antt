use Rattle.std.proofs.Common.{◌≡◌, rules, sym, subst, arith, length}
use Rattle.std.proofs.lemmas.Grind.{common_steps}
use Rattle.vc_build.specs.Rebuild.{built}
use Rattle.vc_rebuild.specs.Change.{IsChangedAt}
use Rattle.edit_session.proofs.OneBody.{only_revised}
use Rattle.edit_session.proofs.alone.changed_alone.Goals as goal

pub returns : goal.returns
returns c =
    let m = c.args.typed.now in
    let one : length c.args.revisions.now ≡ 1 = grind (arith, common_steps) in
    subst (IsChangedAt c.body_at.result (built m)) (sym (only_revised m c.args.revisions.now c.index-revisions-0.result one (search rules))) c.body_at.ensures
