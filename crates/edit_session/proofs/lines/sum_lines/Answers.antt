use Rattle.std.proofs.Common.{◌≡◌, ◌∙◌, ap, map, string_bytes}
use Rattle.vc_build.specs.declared.goal.Goal.{Goal}
use Rattle.vc_build.specs.Rebuild.{BuiltProc}
use Rattle.edit_session.proofs.Parts.{sums_told}
use Rattle.edit_session.proofs.lines.sum_lines.Goals as goal

pub returns : goal.returns
returns c =
    let decls = c.deref.ensures.value ∙ c.erased.view_is ∙ c.in_ok-erased.ensures in
    let names = ap (map string_bytes) c.deref-2.ensures.value ∙ c.in_ok-names.ensures in
    let marks : map (λ gs. gs.items) c.deref-3.result.now ≡ map (λ (b : BuiltProc). map (λ (g : Goal). g.mark) b.goals) c.args.procs.now = rw c.deref-3.ensures.value c.in_ok-marks.ensures in
    sums_told c.args.typed.now _ _ c.args.procs.now _ _ _ _ decls names marks c.in_ok-lines.ensures c.in_ok-found.ensures
