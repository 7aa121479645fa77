-- The points of a procedure: the ends of the lists that are the branches of its ifs, the bodies of its loops, and its whole body.
use Rattle.std.specs.Prelude.{ℕ, zero, suc, ◌+◌, Bool, cond, List, [], ◌∷◌, ◌++◌, slice_get, Option, Some, None}
use Rattle.bv_base.specs.declared.place.Place.{Place}
use Rattle.flow_core.specs.declared.mark.GoalKind.TheVariants as why
use Rattle.bpl_model.specs.Module.{Stmt, assert, assume, havoc, assign, call, if_else, while, break, return, goto, labelled, Stmts, no_stmts, stmt, Proc}
use Rattle.smoke_report.specs.declared.point.PointKind.{PointKind}
use Rattle.smoke_report.specs.declared.point.PointKind.TheVariants.{Branch, Else, Loop, End}
use Rattle.smoke_report.specs.declared.point.Point.{Point}

-- where a point is named, and its kind
abbrev pub Spot : Type 0
Spot = Place × PointKind

-- where the chain of an if begins, and the number of its branch; an if that goes on with no other begins its own
abbrev pub Chain : Type 0
Chain = Option (Place × ℕ)

abbrev pub branch_of : Chain → Place → Place × ℕ
branch_of None at = (at, 1)
branch_of (Some b) at = b

abbrev mutual
  -- in the order in which their lists end
  pub points_in : Chain → Stmt → List Spot
  points_in chain (assert mark E) = []
  points_in chain (assume at E) = []
  points_in chain (havoc at xs) = []
  points_in chain (assign at ps) = []
  points_in chain (call at q es xs) = []
  points_in chain (if_else at has_else g ss ts) =
      let b = branch_of chain at in
      points_within None ss ++ (b.0, Branch b.1) ∷ cond has_else (points_within None ts ++ (b.0, Else) ∷ []) (points_within (Some (b.0, b.1 + 1)) ts)
  points_in chain (while at g is ss) = points_within None ss ++ (at, Loop) ∷ []
  points_in chain (break at l) = []
  points_in chain (return at) = []
  points_in chain (goto at ls) = []
  points_in chain (labelled ls s) = points_in None s

  pub points_within : Chain → Stmts → List Spot
  points_within chain no_stmts = []
  points_within chain (stmt s ss) = points_in chain s ++ points_within chain ss

abbrev pub first_place : Place
first_place = record { line = 1; col = 1 }

abbrev pub spots_of : Option Stmts → List Spot
spots_of None = []
spots_of (Some ss) = points_within None ss ++ (first_place, End) ∷ []

-- the point of this number
abbrev pub point_of : ℕ → Spot → Point
point_of n s = record { mark = record { place = s.0; kind = why.Point n }; kind = s.1 }

abbrev pub numbered : ℕ → List Spot → List Point
numbered n [] = []
numbered n (s ∷ ss) = point_of n s ∷ numbered (n + 1) ss

-- numbered from 1
abbrev pub points : Proc → List Point
points p = numbered 1 (spots_of p.body)

abbrev pub of_number : List Point → ℕ → Option Point
of_number ps zero = None
of_number ps (suc k) = slice_get ps k

abbrev pub point_at : Proc → ℕ → Option Point
point_at p n = of_number (points p) n

-- of the other branch of an if that is this branch of its chain: an else list, or what an `else if` goes on with
abbrev pub points_beside : Place × ℕ → Bool → Stmts → List Spot
points_beside b has_else ts = cond has_else (points_within None ts ++ (b.0, Else) ∷ []) (points_within (Some (b.0, b.1 + 1)) ts)
