use Rattle.std.proofs.Common.{ap, map}
use mathlib.Core.Path.{sym, subst, ◌∙◌}
use Rattle.std.specs.Prelude.{IfOk}
use Rattle.std.specs.Arc.{arc_value}
use Rattle.board_core.specs.Board.{open_keys}
use Rattle.board_core.specs.Difference.{with_middle}
use Rattle.board_core.specs.Handed.{open_answer}
use Rattle.board_core.specs.Step.{Steps}
use Rattle.board_core.proofs.Limits.{all_stay}
use Rattle.board_core.proofs.board.Board.open_middle.Goals as goal

pub open_in_place-requires-clause-stay : goal.open_in_place-requires-clause-stay
open_in_place-requires-clause-stay g c = rw (← c.self.view_is) (all_stay (with_middle c.args.first c.args.last (map (λ q. g.A.Q.Question.key (arc_value q)) c.args.middle.items) c.self.inside.present) c.self.inside.cache.kept (sym c.is_within_limit.ensures ∙ c.if-is_within_limit.true))

pub returns-clause-step : goal.returns-clause-step
returns-clause-step g c =
    subst (λ ks. IfOk c.open_anew.result (λ r. Steps c.args.self.now (open_keys ks) c.open_anew.new.self (open_answer r)))
    (c.in_ok-items.ensures ∙ (λ i. with_middle c.args.first c.args.last (map (λ q. g.A.Q.Question.key (arc_value q)) (c.deref.ensures.value i)) ((c.questions.ensures ∙ ap (λ s. s.present) c.self.view_is) i))) c.open_anew.ensures.step
