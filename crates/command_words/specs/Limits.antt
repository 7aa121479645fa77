-- The numbers that options may have.
use Rattle.std.specs.Prelude.{ℕ}

-- the turns that a search has where none are given
abbrev pub usual_turns : ℕ
usual_turns = 20_000

abbrev pub least_turns : ℕ
least_turns = 1

abbrev pub most_turns : ℕ
most_turns = 1_000_000

abbrev pub most_workers : ℕ
most_workers = 64

abbrev pub last_seed : ℕ
last_seed = 2_147_483_647

-- the size of the largest program that is generated
abbrev pub most_size : ℕ
most_size = 5_000
