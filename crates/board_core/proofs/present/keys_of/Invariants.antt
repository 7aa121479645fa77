use Rattle.std.proofs.Common.{◌≡◌, ◌||◌, ℕ, List, map, drop}
use Rattle.std.specs.Arc.{arc_value}
use Rattle.bv_base.specs.Text.{is_among}
use Rattle.board_core.specs.Kept.{Key}
use Rattle.board_core.specs.Present.{is_present}
use Rattle.board_core.proofs.present.keys_of.Given as goal

abbrev pub invariant-loop-question : goal.invariant-loop-question
invariant-loop-question g l = (k : List ℕ) → (is_present l.keys.keys k || is_among (map (λ q. g.Q.Question.key (arc_value q)) (drop l.question-index l.questions)) k) ≡ is_among (map (λ q. g.Q.Question.key (arc_value q)) l.questions) k
