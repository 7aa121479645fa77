use Rattle.std.proofs.Common.{arith, refl, length, ◌-◌}
use Rattle.std.specs.Arc.{arc_value}
use Rattle.bv_base.specs.Text.{is_among}
use Rattle.board_core.specs.Kept.{kept_keys}
use Rattle.board_core.proofs.Middle.{counted_around}
use Rattle.board_core.proofs.done.done_around.Goals as goal

pub overflow_sub-result : goal.overflow_sub-result
overflow_sub-result g c = omega (arith, c.count_done.ensures, c.requires.done, counted_around (λ q. g.A.Q.Question.key (arc_value q)) (is_among (kept_keys c.args.cache.now.kept)) c.args.first c.args.last (length c.args.questions.now - c.args.last) c.args.questions.now c.requires.within refl)

pub returns : goal.returns
returns g c = omega (arith, c.count_done.ensures, c.requires.done, counted_around (λ q. g.A.Q.Question.key (arc_value q)) (is_among (kept_keys c.args.cache.now.kept)) c.args.first c.args.last (length c.args.questions.now - c.args.last) c.args.questions.now c.requires.within refl)
