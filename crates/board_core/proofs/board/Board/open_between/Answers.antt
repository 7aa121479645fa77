use Rattle.std.proofs.Common.{map}
use mathlib.Core.Path.{sym, ◌∙◌}
use Rattle.std.specs.Arc.{arc_value}
use Rattle.board_core.proofs.Limits.{all_stay}
use Rattle.board_core.proofs.board.Board.open_between.Goals as goal

pub open_change-requires-clause-stay : goal.open_change-requires-clause-stay
open_change-requires-clause-stay g c = rw (← c.self.view_is) (all_stay (map (λ q. g.A.Q.Question.key (arc_value q)) c.args.items.items) c.self.inside.cache.kept (sym c.is_within_limit.ensures ∙ c.if-is_within_limit.true))

pub open_change-requires-clause-differ : goal.open_change-requires-clause-differ
open_change-requires-clause-differ g c = c.requires.differ
