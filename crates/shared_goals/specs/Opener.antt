-- The opener of a board of goals, between two calls.
use Rattle.std.specs.Prelude.{◌≡◌, false, Option, List}
use Rattle.obligation_text.specs.Asked.{Asked}
use Rattle.tableau.specs.Settled.{Settled}
use Rattle.atomic_table.specs.declared.shared.Seat.{Seat}
use Rattle.turn_lock.specs.declared.rule.View.{View}
use Rattle.turn_lock.specs.Lock.{number}
use Rattle.board_core.specs.Board.{Call}
use Rattle.obligation_board.specs.declared.posted.Posted.{Posted}
use Rattle.obligation_board.specs.declared.shared.SharedBoard.{SharedBoard}
use Rattle.obligation_board.specs.Passes.{IsPassOf}
use Rattle.goal_board.specs.Calls.{BoardCall}
use Rattle.goal_board.specs.Working.{Settling, Working}
use Rattle.shared_goals.specs.Known.{KnowsOwn, board_of, IsLaterPass}

abbrev pub GoalPass : Type 0
GoalPass = Seat (Option (Posted Settled Asked)) (View (Posted Settled Asked) (Call Settled))

abbrev pub GoalsShared : Type 0
GoalsShared = SharedBoard Settled Asked

-- it is this board's, has the number 0, knows the calls that it made, and has not closed the board
pub record IsOpenerOf (b : GoalsShared) (p : GoalPass) : Type 0 where
  pub pass : IsPassOf b p
  pub zero : number p ≡ 0
  pub knows : KnowsOwn p
  pub unclosed : (board_of p).closed ≡ false

-- and so it is still, these calls later
pub record StaysOpener (b : GoalsShared) (p q : GoalPass) (calls : List BoardCall) : Type 0 where
  pub opener : IsOpenerOf b q
  pub later : IsLaterPass p q calls

-- goals were settled, one after another
pub record HasSettled (b : GoalsShared) (p q : GoalPass) : Type 0 where
  pub calls : List BoardCall
  pub stays : StaysOpener b p q calls
  pub are : Settling calls

-- some were settled, and some given back
pub record HasWorked (b : GoalsShared) (p q : GoalPass) : Type 0 where
  pub calls : List BoardCall
  pub stays : StaysOpener b p q calls
  pub are : Working calls
