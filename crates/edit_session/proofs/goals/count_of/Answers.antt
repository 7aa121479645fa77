use Rattle.std.proofs.Common.{◌∙◌, ap, length}
use Rattle.std.proofs.lemmas.List.{length-map}
use Rattle.vc_build.specs.declared.goal.Goal.{Goal}
use Rattle.edit_session.proofs.goals.count_of.Goals as goal

pub returns : goal.returns
returns c = ap length c.marks.ensures ∙ length-map c.args.proc.now.goals (λ (g : Goal). g.mark)
