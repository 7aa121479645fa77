use Rattle.std.proofs.Common.{◌∙◌, ap, sym, map}
use Rattle.std.proofs.lemmas.Slice.Eq.{bytes_eq-Decides}
use Rattle.bpl_model.specs.Module.{Module}
use Rattle.vc_build.specs.declared.goal.Goal.{Goal}
use Rattle.vc_build.specs.Goals.{goals_by_passes}
use Rattle.vc_rebuild.proofs.KeptGoals.{same_whole}
use Rattle.vc_rebuild.proofs.procedure.kept_there.Goals as goal

pub kept_whole-requires : goal.kept_whole-requires
kept_whole-requires c =
    let m = c.args.links.now in
    let p = c.args.proc.now in
    let name = (bytes_eq-Decides c.args.kept.now.name p.name).0 (sym c.has_name.ensures ∙ c.if-has_name.true) in
    let marks = c.has_marks.ensures c.if-has_marks.true ∙ c.as_slice.ensures.value ∙ c.in_ok-marks.ensures ∙ ap (λ (n : Module). map (λ (g : Goal). g.mark) (goals_by_passes n p)) c.parts.ensures.same in
    same_whole m p c.args.kept.now name c.requires.text marks c.requires.same
