use Rattle.std.proofs.Common.{refl, sym, subst}
use Rattle.goal_board.specs.Rests.{IsAtRest}
use Rattle.own_goals.proofs.Standing.{none_stand}
use Rattle.own_goals.proofs.alone.Alone.new.Goals as goal

pub invariant_of-result : goal.invariant_of-result
invariant_of-result c = (
  subst IsAtRest (sym c.new.ensures) (record { unclosed = refl; none_out = refl }),
  rw (c.new.ensures, c.none.ensures.answers, c.none.ensures.first, c.none.ensures.last) none_stand,
)
