-- Points of a program, some of them after others: the lines of both, and the first fault of both.
use Rattle.std.proofs.Common.{◌≡◌, ◌∙◌, refl, sym, ap, subst, arith, ℕ, zero, suc, ◌+◌, ◌<◌, ◌≤◌, ◌-◌, Bool, true, false, cond, List, [], ◌∷◌, ◌++◌, map, length, take, drop, slice_get, get_or, unwrap_or, Option, Some, None, Result, Ok, Err}
use Rattle.std.specs.Prelude.{filter, IfErr, IsErrAnd}
use Rattle.std.specs.Option.{option_or}
use Rattle.std.proofs.lemmas.List.{append_assoc, at_drop_more, length-drop}
use Rattle.std.proofs.lemmas.Option.{slice_get_within, slice_get-get_or, unwrap_or-slice_get}
use Rattle.std.specs.List.{AllByRecursion}
use Rattle.bpl_model.specs.Module.{Proc, Module}
use Rattle.smoke_report.specs.Points.{points}
use Rattle.vc_build.specs.declared.fault.Measure.{Measure}
use Rattle.vc_build.specs.declared.fault.BuildFault.{BuildFault}
use Rattle.vc_build.specs.declared.fault.BuildFault.TheVariants.{Large, Memory}
use Rattle.vc_build.specs.Large.{large}
use Rattle.vc_build.specs.Exceeds.{IsFaultBy}
use Rattle.smoke_report.specs.declared.program_point.ProgramPoint.{ProgramPoint}
use Rattle.smoke_report.specs.ProgramPoints.{program_points}
use Rattle.smoke_report.specs.Pointed.{AreOf, proc_at}
use Rattle.smoke_report.specs.Smoke.{point_goals, large_among}
use Rattle.smoke_report.proofs.PointsOfPrograms.{IsAt, each_is}

-- ---- the procedure of a number

pub the_procedure : (ps : List Proc) (i : ℕ) (p : Proc) → i < length ps → p ≡ get_or ps i p → p ≡ proc_at ps i
the_procedure ps i p below is = let a : Some (get_or ps i p) ≡ Some (proc_at ps i) = sym (slice_get-get_or ps i p below) ∙ slice_get-get_or ps i _ below in is ∙ (let b : get_or ps i p ≡ proc_at ps i = cc in b)

pub counted_there : (ps : List Proc) (i : ℕ) (p : Proc) → Some p ≡ slice_get ps i → length (points p) ≡ length (points (proc_at ps i))
counted_there ps i p e = ap (λ o. length (points (unwrap_or o (proc_at [] i)))) e ∙ ap (λ q. length (points q)) (unwrap_or-slice_get ps i _)

pub counted_nowhere : (ps : List Proc) (i : ℕ) → None ≡ slice_get ps i → 0 ≡ length (points (proc_at ps i))
counted_nowhere ps i e = ap (λ o. length (points (unwrap_or o (proc_at [] i)))) e ∙ ap (λ q. length (points q)) (unwrap_or-slice_get ps i _)

-- ---- some after others

module _ (ps : List Proc) where
  pub of_first : (c : ℕ) (xs : List ProgramPoint) → AreOf ps xs → AreOf ps (take c xs)
  of_first zero xs h = tt
  of_first (suc c) [] h = tt
  of_first (suc c) (x ∷ xs) h = (h.0, of_first c xs h.1)

  pub of_later : (c : ℕ) (xs : List ProgramPoint) → AreOf ps xs → AreOf ps (drop c xs)
  of_later zero xs h = h
  of_later (suc c) [] h = tt
  of_later (suc c) (x ∷ xs) h = of_later c xs h.1

-- what is said of those that pass a test
pub lines_of : {A B : Type 0} (f : A → B) (test : A → Bool) (c : ℕ) (xs : List A) → map f (filter test (take c xs)) ++ map f (filter test (drop c xs)) ≡ map f (filter test xs)
lines_of f test zero xs = refl
lines_of f test (suc c) [] = refl
lines_of {A} {B} f test (suc c) (x ∷ xs) = by_test (test x) (lines_of f test c xs)
  where
    by_test : (b : Bool) → map f (filter test (take c xs)) ++ map f (filter test (drop c xs)) ≡ map f (filter test xs) → map f (cond b (x ∷ filter test (take c xs)) (filter test (take c xs))) ++ map f (filter test (drop c xs)) ≡ map f (cond b (x ∷ filter test xs) (filter test xs))
    by_test true rest = ap (λ ys. f x ∷ ys) rest
    by_test false rest = rest

module _ (m : Module) where
  pub large_later : (c : ℕ) (xs : List ProgramPoint) → large_among m (take c xs) ≡ None → large_among m (drop c xs) ≡ large_among m xs
  large_later zero xs e = refl
  large_later (suc c) [] e = refl
  large_later (suc c) (x ∷ xs) e = by_first (large (point_goals m x)) (large_later c xs) e
    where
      by_first : (o : Option (Measure × ℕ)) → (large_among m (take c xs) ≡ None → large_among m (drop c xs) ≡ large_among m xs) → option_or o (large_among m (take c xs)) ≡ None → large_among m (drop c xs) ≡ option_or o (large_among m xs)
      by_first None rest f = rest f
      by_first (Some w) rest f = absurd (let n : Some w ≡ None = f in cc)

  large_first : (c : ℕ) (xs : List ProgramPoint) (w : Measure × ℕ) → large_among m (take c xs) ≡ Some w → large_among m xs ≡ Some w
  large_first zero xs w e = absurd (let n : None ≡ Some w = e in cc)
  large_first (suc c) [] w e = e
  large_first (suc c) (x ∷ xs) w e = by_first (large (point_goals m x)) (large_first c xs w) e
    where
      by_first : (o : Option (Measure × ℕ)) → (large_among m (take c xs) ≡ Some w → large_among m xs ≡ Some w) → option_or o (large_among m (take c xs)) ≡ Some w → option_or o (large_among m xs) ≡ Some w
      by_first None rest f = rest f
      by_first (Some v) rest f = f

  pub fault_first : (c : ℕ) (xs : List ProgramPoint) (e : BuildFault) → IsFaultBy (large_among m (take c xs)) e → IsFaultBy (large_among m xs) e
  fault_first c xs (Large what number) h = large_first c xs (what, number) h
  fault_first c xs Memory h = tt

  pub points_are_of : AreOf m.procs (program_points m)
  points_are_of = each (program_points m) (each_is m)
    where
      each : (xs : List ProgramPoint) → AllByRecursion (IsAt m) xs → AreOf m.procs xs
      each [] h = tt
      each (x ∷ xs) h = (slice_get_within m.procs x.proc h.0.proc h.0.there, each xs h.1)

-- ---- the points that are put in at once, and those that are left

module _ (c : ℕ) (xs first later : List ProgramPoint) (front : first ≡ take c xs) (back : later ≡ drop c xs) where
  pub first_are_of : (ps : List Proc) → AreOf ps xs → AreOf ps first
  first_are_of ps h = subst (AreOf ps) (sym front) (of_first ps c xs h)

  pub later_are_of : (ps : List Proc) → AreOf ps xs → AreOf ps later
  later_are_of ps h = subst (AreOf ps) (sym back) (of_later ps c xs h)

  pub lines_next : {B : Type 0} (f : ProgramPoint → B) (test : ProgramPoint → Bool) (new old : List B) → new ≡ old ++ map f (filter test first) → new ++ map f (filter test later) ≡ old ++ map f (filter test xs)
  lines_next f test new old e =
      (λ i. e i ++ map f (filter test (back i)))
      ∙ ((λ i. (old ++ map f (filter test (front i))) ++ map f (filter test (drop c xs)))
      ∙ (append_assoc old (map f (filter test (take c xs))) (map f (filter test (drop c xs))) ∙ ap (λ ys. old ++ ys) (lines_of f test c xs)))

  pub large_next : (m : Module) → large_among m first ≡ None → large_among m later ≡ large_among m xs
  large_next m e = ap (large_among m) back ∙ large_later m c xs (ap (large_among m) (sym front) ∙ e)

  pub fault_next : (m : Module) (e : BuildFault) → IsFaultBy (large_among m first) e → IsFaultBy (large_among m xs) e
  fault_next m e h = fault_first m c xs e (subst (λ ys. IsFaultBy (large_among m ys) e) front h)

  pub fault_given : {A : Type 0} (m : Module) (r : Result A BuildFault) (e : BuildFault) → IsErrAnd r (λ x. x ≡ e) → IsFaultBy (large_among m first) e → IfErr r (IsFaultBy (large_among m xs))
  fault_given m (Ok a) e h g = absurd h
  fault_given m (Err x) e h g = subst (IsFaultBy (large_among m xs)) (sym h) (fault_next m e g)

  pub fewer_next : 0 < c → c ≤ length xs → length later < length xs
  fewer_next one within = let e : length later ≡ length xs - c = ap length back ∙ length-drop c xs in omega (arith, e)

-- ---- one point more

module _ (xs : List ProgramPoint) (i : ℕ) (x : ProgramPoint) (within : i < length xs) (is : x ≡ get_or xs i x) where
  point_ahead : {B : Type 0} (F : List ProgramPoint → B) → F (drop i xs) ≡ F (x ∷ drop (i + 1) xs)
  point_ahead F = at_drop_more F xs i x within ∙ (λ j. F (sym is j ∷ drop (i + 1) xs))

  pub lines_after : {B : Type 0} (f : ProgramPoint → B) (test : ProgramPoint → Bool) (new old all : List B) → new ≡ old ++ map f (filter test (x ∷ [])) → old ++ map f (filter test (drop i xs)) ≡ all → new ++ map f (filter test (drop (i + 1) xs)) ≡ all
  lines_after f test new old all e so_far =
      (λ j. e j ++ map f (filter test (drop (i + 1) xs)))
      ∙ (append_assoc old (map f (filter test (x ∷ []))) (map f (filter test (drop (i + 1) xs)))
      ∙ (ap (λ ys. old ++ ys) (lines_of f test (suc zero) (x ∷ drop (i + 1) xs)) ∙ (sym (point_ahead (λ ys. old ++ map f (filter test ys))) ∙ so_far)))

  module _ (m : Module) (all : Option (Measure × ℕ)) (so_far : large_among m (drop i xs) ≡ all) where
    pub large_after : large (point_goals m x) ≡ None → large_among m (drop (i + 1) xs) ≡ all
    large_after none = (λ j. option_or (sym none j) (large_among m (drop (i + 1) xs))) ∙ (sym (point_ahead (large_among m)) ∙ so_far)

    pub fault_at : {A : Type 0} (r : Result A BuildFault) (e : BuildFault) → IsErrAnd r (λ w. w ≡ e) → IsFaultBy (large (point_goals m x)) e → IfErr r (IsFaultBy all)
    fault_at (Ok a) e is_err fault = absurd is_err
    fault_at (Err w) e is_err fault = subst (IsFaultBy all) (sym is_err) (by e fault)
      where
        by : (v : BuildFault) → IsFaultBy (large (point_goals m x)) v → IsFaultBy all v
        by (Large what number) found = sym so_far ∙ (point_ahead (large_among m) ∙ ap (λ o. option_or o (large_among m (drop (i + 1) xs))) found)
        by Memory found = tt
