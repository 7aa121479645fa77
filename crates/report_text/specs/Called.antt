-- The line that calls a procedure correct.
use Rattle.std.specs.Prelude.{ℕ, List, ◌++◌, codes}
use Rattle.bv_base.specs.Text.{line_feed, IsWithout}

abbrev pub correct_line : List ℕ → List ℕ
correct_line name = name ++ codes " correct"

abbrev pub colon : ℕ
colon = 58

-- a procedure's name has neither a line feed nor a colon
pub record IsName (name : List ℕ) : Type 0 where
  pub no_feed : IsWithout line_feed name
  pub no_colon : IsWithout colon name
