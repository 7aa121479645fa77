-- As many lines as points that they name.
use Rattle.std.proofs.Common.{◌≡◌, ◌∙◌, sym, ap, ℕ, List, length, map, Vec, Global}
use Rattle.std.proofs.lemmas.List.{length-map}
use Rattle.smoke_report.specs.declared.program_point.ProgramPoint.{ProgramPoint}
use Rattle.smoke_report.specs.Unreached.{point_line}

pub as_many : (lines : List (Vec ℕ Global)) (xs : List ProgramPoint) → map (λ l. l.items) lines ≡ map point_line xs → length lines ≡ length xs
as_many lines xs e = sym (length-map lines (λ (l : Vec ℕ Global). l.items)) ∙ (ap length e ∙ length-map xs point_line)
