use Rattle.std.proofs.Common.{◌∙◌, rules, sym}
use Rattle.vc_rebuild.proofs.MarksInOrder.{same_points}
use Rattle.vc_rebuild.proofs.procedure.has_marks.Goals as goal

pub returns : goal.returns
returns c told = sym c.marks.ensures ∙ same_points _ (λ x y e. search rules) c.marks.result.now c.args.marks.now (sym c.eq.ensures ∙ told)
