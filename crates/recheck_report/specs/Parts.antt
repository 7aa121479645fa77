-- A text in two parts: what stands before its first line %%, and the lines behind that line.
use Rattle.std.specs.Prelude.{ℕ, cond, List, [], ◌∷◌, map}
use Rattle.recheck_report.specs.Program.{pieces, without_feed}
pub use Rattle.recheck_report.specs.Program.{is_mark, before_mark, program_in}

-- the pieces behind the mark, none where there is none
abbrev pub after_mark : List (List ℕ) → List (List ℕ)
after_mark [] = []
after_mark (p ∷ ps) = cond (is_mark p) ps (after_mark ps)

abbrev pub lines_in : List ℕ → List (List ℕ)
lines_in text = map without_feed (after_mark (pieces text))
