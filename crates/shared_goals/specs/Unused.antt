-- The opener of a board before its first call.
use Rattle.std.specs.Prelude.{◌≡◌, [], Option}
use Rattle.atomic_table.specs.declared.shared.Seat.{Seat}
use Rattle.turn_lock.specs.declared.rule.View.{View}
use Rattle.turn_lock.specs.Lock.{mine, number}
use Rattle.board_core.specs.Board.{Call}

-- the pass is the opener, and made no call
module _ {S A : Type 0} where
  pub record IsUnused (p : Seat (Option S) (View S (Call A))) : Type 0 where
    pub zero : number p ≡ 0
    pub none_made : mine p ≡ []
