use Rattle.std.specs.Arc.{arc_value}
use Rattle.board_core.proofs.Held.{new_held}
use Rattle.board_core.proofs.cache.Cache.new.Goals as goal

pub invariant_of-result : goal.invariant_of-result
invariant_of-result g c = new_held (λ v. v.items) arc_value (λ a. g.A.Q.Question.key (g.A.Answered.asked a)) g.A.Answered.right _ _ _ c.new.ensures.empty c.new-2.ensures.items
