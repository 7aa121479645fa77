use Rattle.std.proofs.Common.{◌-◌, ap, refl, map, length, slice_range}
use Rattle.std.specs.Arc.{arc_value}
use Rattle.board_core.proofs.Differing.{last_part}
use Rattle.board_core.proofs.Middle.{middle_pushed}
use Rattle.board_core.proofs.goals.with_middle.Goals as goal

pub returns : goal.returns
returns g c =
    middle_pushed (λ q. g.Q.Question.key (arc_value q)) c.args.first c.args.last (length c.args.questions.now - c.args.last) c.args.questions.now c.args.middle.now (slice_range c.args.questions.now (length c.args.questions.now - c.args.last) (length c.args.questions.now)) _ _ _ _
    (ap (map (λ q. g.Q.Question.key (arc_value q))) c.in_ok-all.ensures.items) c.in_ok-push_all.ensures c.in_ok-push_all-2.ensures c.in_ok-push_all-3.ensures (last_part c.args.questions.now (length c.args.questions.now - c.args.last)) refl
