-- What a session's calls did on its board.
use Rattle.std.specs.Prelude.{◌≡◌, ◌≢◌, ℕ, List, ◌++◌, Option}
use Rattle.tableau.specs.Settled.{Settled}
use Rattle.goal_board.specs.Calls.{Board, BoardCall}
use Rattle.goal_board.specs.Between.{Between}
use Rattle.goal_board.specs.Working.{IsGathered, IsWork}
use Rattle.goal_board.specs.Found.{found}

-- The calls took one board to the other, with others' work between them; where there are others, they were noted
pub record AreMade (workers : ℕ) (s : Board) (noted : List BoardCall) (t : Board) (noted' : List BoardCall) (calls : List BoardCall) : Type 0 where
  pub between : Between workers s calls t
  pub are_noted : workers ≢ 0 → noted' ≡ noted ++ calls

module _ (workers : ℕ) (s : Board) (noted : List BoardCall) (t : Board) (noted' : List BoardCall) where
  -- goals were settled, and then shown, each answered; these are the answers
  pub record AreSettled (these : List Settled) : Type 0 where
    pub calls : List BoardCall
    pub shown : List (Option Settled)
    pub are : AreMade workers s noted t noted' calls
    pub gathered : IsGathered calls shown
    pub answers : these ≡ found shown

  -- without memory: some work was done
  pub record AreWork : Type 0 where
    pub calls : List BoardCall
    pub are : AreMade workers s noted t noted' calls
    pub work : IsWork calls
