-- The lines of a text, the first of them, and those behind it.
use Rattle.std.specs.Prelude.{ℕ, List, [], ◌∷◌}
pub use Rattle.bv_base.specs.Lines.{lines}
pub use Rattle.recheck_report.specs.Program.{is_feed, onto, pieces, without_feed}

abbrev pub first_line : List (List ℕ) → List ℕ
first_line [] = []
first_line (l ∷ ls) = l

abbrev pub later_lines : List (List ℕ) → List (List ℕ)
later_lines [] = []
later_lines (l ∷ ls) = ls
