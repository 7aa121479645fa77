-- What bytes say of points: the line of each that is unreachable, and that no execution reaches it.
use Rattle.std.specs.Prelude.{◌≡◌, ℕ, List, [], ◌∷◌, ◌++◌, map, length, slice_get, Some, codes, decimal}
use Rattle.std.specs.List.{AllByRecursion}
use Rattle.bpl_model.specs.Module.{Proc, Module}
use Rattle.smoke_report.specs.declared.point.PointKind.{PointKind}
use Rattle.smoke_report.specs.declared.point.PointKind.TheVariants.{Branch, Else, Loop, End}
use Rattle.smoke_report.specs.Points.{point_at}
use Rattle.smoke_report.specs.Reach.{Reaches}
use Rattle.bv_base.specs.Text.{text_of}
use Rattle.smoke_report.specs.declared.program_point.ProgramPoint.{ProgramPoint}

abbrev pub kind_text : PointKind → List ℕ
kind_text (Branch k) = codes "branch(" ++ decimal k ++ codes ")"
kind_text Else = codes "else"
kind_text Loop = codes "loop"
kind_text End = codes "end"

abbrev pub point_line : ProgramPoint → List ℕ
point_line x = x.name ++ codes " " ++ decimal x.point.mark.place.line ++ codes ":" ++ decimal x.point.mark.place.col ++ codes " " ++ kind_text x.point.kind ++ codes " unreachable"

-- so many points, and so many of them unreachable
abbrev pub summary : ℕ → ℕ → List ℕ
summary n u = codes "smoke points=" ++ decimal n ++ codes " unreachable=" ++ decimal u

-- it is a point of a procedure of this module, and that procedure reaches it from none of its entry states
pub record IsUnreached (m : Module) (x : ProgramPoint) : Type 0 where
  pub proc : Proc
  pub there : slice_get m.procs x.proc ≡ Some proc
  pub named : proc.name ≡ x.name
  pub is_point : point_at proc x.number ≡ Some x.point
  pub never : ¬ Reaches m x.proc x.number

-- these bytes are the lines of points that are so, and a last one that counts them
pub record NamesUnreached (m : Module) (written : List ℕ) : Type 0 where
  pub named : List ProgramPoint
  pub count : ℕ
  pub said : written ≡ text_of (map point_line named ++ summary count (length named) ∷ [])
  pub unreached : AllByRecursion (IsUnreached m) named
