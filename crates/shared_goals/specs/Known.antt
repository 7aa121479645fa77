-- What a pass knows of the history of its board, and what its calls between two moments are.
use Rattle.std.specs.Prelude.{◌≡◌, ◌⊎◌, List, [], ◌∷◌, ◌++◌, map, Option}
use Rattle.tableau.specs.Settled.{Settled, IsRight}
use Rattle.atomic_table.specs.declared.shared.Seat.{Seat}
use Rattle.turn_lock.specs.declared.rule.View.{View}
use Rattle.turn_lock.specs.History.{StartsWith, calls_by}
use Rattle.turn_lock.specs.Lock.{number, seen, mine, above, splits}
use Rattle.board_core.specs.Board.{first, Call}
use Rattle.board_core.specs.History.{Entry, Legal, replay}
use Rattle.obligation_board.specs.Calls.{Knows}
use Rattle.goal_board.specs.Calls.{Board, BoardCall, answer_key}
use Rattle.goal_board.specs.Between.{Between}

abbrev pub GoalEntry : Type 0
GoalEntry = Entry Settled

abbrev pub LegalHistory : List GoalEntry → Type 0
LegalHistory h = Legal Settled answer_key IsRight h

-- the calls of the opener
abbrev pub by_opener : List BoardCall → List GoalEntry
by_opener cs = map (λ c. (0, c)) cs

-- In a legal history the opener's calls behind some entry take the board that it stood for there to the one that it stands for at the end, with the other callers' work between them
abbrev pub HistoriesAreBetween : Type 0
HistoriesAreBetween = (h more : List GoalEntry) (own : List BoardCall) → LegalHistory (h ++ more) → calls_by 0 more ≡ by_opener own → Between 1 (replay h) own (replay (h ++ more))

-- the board at the end of a history; where the opener made no call it is the first one, whatever others did
abbrev pub board_after : List GoalEntry → List GoalEntry → Board
board_after [] history = first Settled
board_after (c ∷ own) history = replay history

module _ {S : Type 0} where
  abbrev pub KnowsGoals : Seat (Option S) (View S (Call Settled)) → Type 0
  KnowsGoals p = Knows answer_key IsRight p

  -- it made no call, or knows what it made
  abbrev pub KnowsOwn : Seat (Option S) (View S (Call Settled)) → Type 0
  KnowsOwn p = (mine p ≡ []) ⊎ KnowsGoals p

  -- the board as the opener has seen it last
  abbrev pub board_of : Seat (Option S) (View S (Call Settled)) → Board
  board_of p = board_after (mine p) (seen p)

  -- no pass was made of it, and it heard of none
  abbrev pub MakesNoPass : Seat (Option S) (View S (Call Settled)) → Seat (Option S) (View S (Call Settled)) → Type 0
  MakesNoPass p q = (above q ≡ above p) × (splits q ≡ splits p)

  -- the opener, some calls of its own later
  pub record IsLaterPass (p q : Seat (Option S) (View S (Call Settled))) (own : List BoardCall) : Type 0 where
    pub opener : (number p ≡ 0) × (number q ≡ 0)
    pub before : KnowsOwn p
    pub after : KnowsOwn q
    pub saw : StartsWith (seen q) (seen p)
    pub made : mine q ≡ mine p ++ by_opener own

-- so it is for what a pass has seen
abbrev pub PassesAreBetween : Type 0 → Type 0
PassesAreBetween S = (p q : Seat (Option S) (View S (Call Settled))) (own : List BoardCall) → IsLaterPass p q own → Between 1 (board_of p) own (board_of q)
