-- Answers that were told before, and which of them still stand.
use Rattle.std.specs.Prelude.{◌≡◌, ℕ, ◌≤◌, ◌-◌, List, map, take, drop, length}
use Rattle.obligation_text.specs.Asked.{Asked, key_of}
use Rattle.tableau.specs.Settled.{Settled, settled_by}
use Rattle.board_core.specs.Kept.{Key}

-- so many first answers are the search's to the questions of the first keys, and so many last ones to those of the last
pub record StillStand (keys : List Key) (told : List Settled) (first last : ℕ) : Type 0 where
  pub questions : List Asked
  pub asked : keys ≡ map key_of questions
  pub first_asked : first ≤ length questions
  pub first_told : first ≤ length told
  pub last_asked : last ≤ length questions
  pub last_told : last ≤ length told
  pub starts : take first told ≡ map settled_by (take first questions)
  pub ends : drop (length told - last) told ≡ map settled_by (drop (length questions - last) questions)
