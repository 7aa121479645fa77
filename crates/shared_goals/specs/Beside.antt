-- What a session's board beside workers stands for.
use Rattle.std.specs.Prelude.{◌≡◌, ℕ, List, map}
use Rattle.atomic_table.specs.Seated.{TableId}
use Rattle.turn_lock.specs.Lock.{mine, above, splits}
use Rattle.goal_board.specs.Calls.{BoardCall}
use Rattle.shared_goals.specs.Opener.{GoalPass, GoalsShared, IsOpenerOf}

-- the pass's own calls, without its number
abbrev pub own_calls : GoalPass → List BoardCall
own_calls p = map (λ e. e.1) (mine p)

-- the opener of this board, whose table has this name; it knows of as many passes as before, and as many were made of it
pub record IsBeside (table : TableId) (known made : ℕ) (b : GoalsShared) (p : GoalPass) : Type 0 where
  pub opener : IsOpenerOf b p
  pub table_is : p.table_id ≡ table
  pub above_is : above p ≡ known
  pub splits_is : splits p ≡ made
