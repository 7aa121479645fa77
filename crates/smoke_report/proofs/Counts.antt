-- How many points there are in a statement; the chain that it goes on with changes no number.
use Rattle.std.proofs.Common.{◌≡◌, ◌∙◌, refl, sym, arith, ℕ, ◌+◌, Bool, true, false, cond, List, [], ◌∷◌, length, Some, None}
use Rattle.std.proofs.lemmas.List.{length-append}
use Rattle.bv_base.specs.declared.place.Place.{Place}
use Rattle.flow_core.specs.declared.block.Invariant.{Invariant}
use Rattle.bpl_model.specs.Module.{Guard, Stmt, assert, assume, havoc, assign, call, if_else, while, break, return, goto, labelled, Stmts, no_stmts, stmt}
use Rattle.smoke_report.specs.declared.point.PointKind.TheVariants.{Branch, Else, Loop}
use Rattle.smoke_report.specs.Points.{Chain, branch_of, points_in, points_within, points_beside}
use Rattle.smoke_report.specs.Put.{count_in, count_within}

-- of an if in a chain, where the numbering of its other branch changes none of its points' number
beside : (b : Place × ℕ) (has_else : Bool) (ts : Stmts) → length (points_within (Some (b.0, b.1 + 1)) ts) ≡ count_within ts → length (points_beside b has_else ts) ≡ count_within ts + cond has_else 1 0
beside b true ts h = length-append (points_within None ts) ((b.0, Else) ∷ [])
beside b false ts h = omega (arith, h)

counted : (chain : Chain) (at : Place) (has_else : Bool) (g : Guard) (ss ts : Stmts) → length (points_within (Some ((branch_of chain at).0, (branch_of chain at).1 + 1)) ts) ≡ count_within ts
    → length (points_in chain (if_else at has_else g ss ts)) ≡ count_within ss + 1 + count_within ts + cond has_else 1 0
counted chain at has_else g ss ts h =
    let b = branch_of chain at in
    omega (arith, length-append (points_within None ss) ((b.0, Branch b.1) ∷ points_beside b has_else ts), beside b has_else ts h)

mutual
  in_is : (chain : Chain) (s : Stmt) → length (points_in chain s) ≡ count_in s
  in_is chain (assert mark E) = refl
  in_is chain (assume at E) = refl
  in_is chain (havoc at xs) = refl
  in_is chain (assign at ps) = refl
  in_is chain (call at q es xs) = refl
  in_is chain (if_else at has_else g ss ts) =
      counted chain at has_else g ss ts (within_is (Some ((branch_of chain at).0, (branch_of chain at).1 + 1)) ts)
      ∙ sym (counted None at has_else g ss ts (within_is (Some ((branch_of None at).0, (branch_of None at).1 + 1)) ts))
  in_is chain (while at g is ss) = refl
  in_is chain (break at l) = refl
  in_is chain (return at) = refl
  in_is chain (goto at ls) = refl
  in_is chain (labelled ls s) = refl

  within_is : (chain : Chain) (ss : Stmts) → length (points_within chain ss) ≡ count_within ss
  within_is chain no_stmts = refl
  within_is chain (stmt s ss) =
      omega (arith, length-append (points_in chain s) (points_within chain ss), length-append (points_in None s) (points_within None ss), in_is chain s, within_is chain ss)

pub count_if : (at : Place) (has_else : Bool) (g : Guard) (ss ts : Stmts) → count_in (if_else at has_else g ss ts) ≡ count_within ss + 1 + count_within ts + cond has_else 1 0
count_if at has_else g ss ts = counted None at has_else g ss ts (within_is (Some ((branch_of None at).0, (branch_of None at).1 + 1)) ts)

pub count_while : (at : Place) (g : Guard) (is : List Invariant) (ss : Stmts) → count_in (while at g is ss) ≡ count_within ss + 1
count_while at g is ss = length-append (points_within None ss) ((at, Loop) ∷ [])
