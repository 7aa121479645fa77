use Rattle.std.proofs.Common.{◌∙◌, rules, sym}
use Rattle.vc_rebuild.proofs.MarksInOrder.{same_points}
use Rattle.vc_rebuild.proofs.change.same_positions.Goals as goal

pub returns : goal.returns
returns c told = same_points _ (λ x y e. search rules) c.args.first.now c.args.second.now (sym c.eq.ensures ∙ told)
