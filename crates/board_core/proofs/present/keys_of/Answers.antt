use Rattle.std.proofs.Common.{ap}
use mathlib.Core.Path.{◌∙◌}
use Rattle.std.specs.Arc.{arc_value}
use Rattle.board_core.proofs.Presence.{present_more}
use Rattle.board_core.proofs.present.keys_of.Goals as goal

pub loop-question-preserved : goal.loop-question-preserved
loop-question-preserved g c k =
    present_more (λ q. g.Q.Question.key (arc_value q)) c.args.questions.now c.loop-question.question-index c.question-item.result c.loop-question.keys.keys _ c.key.result k c.loop-question-test.true c.question-item.is
    (c.key.ensures ∙ ap g.Q.Question.key c.deref.ensures) c.in_ok-insert.ensures.keys (c.loop-question.invariant k)
