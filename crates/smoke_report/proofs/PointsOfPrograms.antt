-- The points of a program are points of its procedures.
use Rattle.std.proofs.Common.{◌≡◌, ◌∙◌, refl, ap, arith, ℕ, suc, ◌+◌, ◌-◌, Bool, true, false, cond, List, [], ◌∷◌, slice_get, Some}
use Rattle.std.specs.Prelude.{filter}
use Rattle.std.specs.List.{AllByRecursion}
use Rattle.logic_core.proofs.EachOf.{every_append}
use Rattle.bpl_model.specs.Module.{Proc, Module}
use Rattle.smoke_report.specs.declared.point.Point.{Point}
use Rattle.smoke_report.specs.Points.{points, point_at}
use Rattle.smoke_report.proofs.Numbered.{number_is}
use Rattle.smoke_report.specs.declared.program_point.ProgramPoint.{ProgramPoint}
use Rattle.smoke_report.specs.ProgramPoints.{points_on, points_from, program_points}

-- the procedure that has the point
pub record IsAt (m : Module) (x : ProgramPoint) : Type 0 where
  pub proc : Proc
  pub there : slice_get m.procs x.proc ≡ Some proc
  pub named : proc.name ≡ x.name
  pub is_point : point_at proc x.number ≡ Some x.point

module _ (m : Module) where
  each_on : (i : ℕ) (p : Proc) → slice_get m.procs i ≡ Some p → (k : ℕ) (xs : List Point) → ((j : ℕ) → slice_get (points p) (k + j) ≡ slice_get xs j) → AllByRecursion (IsAt m) (points_on i p.name (k + 1) xs)
  each_on i p there k [] h = tt
  each_on i p there k (x ∷ xs) h = (
    record {
      proc = p;
      there = there;
      named = refl;
      is_point = number_is (points p) (k + 1) (omega arith) ∙ (let e : k + 1 - 1 ≡ k + 0 = omega arith in ap (slice_get (points p)) e) ∙ h 0;
    },
    each_on i p there (k + 1) xs (λ j. (let e : k + 1 + j ≡ k + suc j = omega arith in ap (slice_get (points p)) e) ∙ h (suc j)),
  )

  each_from : (k : ℕ) (ps : List Proc) → ((j : ℕ) → slice_get m.procs (k + j) ≡ slice_get ps j) → AllByRecursion (IsAt m) (points_from k ps)
  each_from k [] h = tt
  each_from k (p ∷ ps) h =
      let there : slice_get m.procs k ≡ Some p = (let e : k ≡ k + 0 = omega arith in ap (slice_get m.procs) e) ∙ h 0 in
      every_append (IsAt m) (points_on k p.name 1 (points p)) (points_from (k + 1) ps) (each_on k p there 0 (points p) (λ j. let e : 0 + j ≡ j = omega arith in ap (slice_get (points p)) e))
      (each_from (k + 1) ps (λ j. (let e : k + 1 + j ≡ k + suc j = omega arith in ap (slice_get m.procs) e) ∙ h (suc j)))

  pub each_is : AllByRecursion (IsAt m) (program_points m)
  each_is = each_from 0 m.procs (λ j. let e : 0 + j ≡ j = omega arith in ap (slice_get m.procs) e)

-- those that pass a test
pub chosen : {A : Type 0} (P Q : A → Type 0) (test : A → Bool) → ((x : A) → P x → test x ≡ true → Q x) → (xs : List A) → AllByRecursion P xs → AllByRecursion Q (filter test xs)
chosen P Q test f [] h = tt
chosen P Q test f (x ∷ xs) h = by_test (test x) refl (chosen P Q test f xs h.1)
  where
    by_test : (b : Bool) → test x ≡ b → AllByRecursion Q (filter test xs) → AllByRecursion Q (cond b (x ∷ filter test xs) (filter test xs))
    by_test true e rest = (f x h.0 e, rest)
    by_test false e rest = rest
