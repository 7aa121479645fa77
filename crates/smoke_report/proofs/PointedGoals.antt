-- A module with points' procedures behind its own is typed, and the goals of these are those of the points.
use Rattle.std.proofs.Common.{◌≡◌, ◌∙◌, refl, sym, ap, subst, arith, ℕ, suc, ◌+◌, ◌<◌, List, [], ◌∷◌, ◌++◌, map, length, slice_get, Option, Some, None, option_map}
use Rattle.std.proofs.lemmas.Option.{slice_get-map, slice_get-get_or}
use Rattle.std.specs.List.{AllByRecursion}
use Rattle.logic_core.proofs.EachOf.{every_append}
use Rattle.bpl_model.specs.Module.{Proc, Module}
use Rattle.bpl_model.specs.NoGoto.{BodyHasNoGoto}
use Rattle.bpl_model.specs.Typed.{IsTypedProc, IsTypedModule}
use Rattle.bpl_goto.specs.Forward.{AllGoForward}
use Rattle.bpl_goto.specs.Removed.{removed, remove_gotos}
use Rattle.bpl_goto.proofs.NoneLeft.{none_left}
use Rattle.bpl_goto.proofs.StaysTyped.{remove_gotos_stays_typed}
use Rattle.smoke_report.specs.Put.{proc_with_point, procs_with, with_point}
use Rattle.smoke_report.proofs.Found.{found_in}
use Rattle.smoke_report.proofs.StaysTyped.{moved_proc, moved_procs, with_point_stays_typed}
use Rattle.smoke_report.proofs.GoesForward.{with_point_goes_forward}
use Rattle.vc_build.specs.Goals.{goals_by_passes, goals_of_found, goals_at}
use Rattle.smoke_report.specs.declared.program_point.ProgramPoint.{ProgramPoint}
use Rattle.smoke_report.specs.Pointed.{AreOf, proc_at, pointed, with_points}
use Rattle.smoke_report.specs.Smoke.{point_goals}
use Rattle.smoke_report.proofs.Called.{AreCalledAs, are_like, through, with_gotos, before_set, with_others, called_with_point}
use Rattle.smoke_report.proofs.OverOthers.{goals_same}
use Rattle.smoke_report.proofs.Unreached.{in_module}

pub behind : {A : Type 0} (xs ys : List A) (k : ℕ) → slice_get (xs ++ ys) (length xs + k) ≡ slice_get ys k
behind [] ys k = let e : 0 + k ≡ k = omega arith in ap (slice_get ys) e
behind (x ∷ xs) ys k = (let e : suc (length xs) + k ≡ suc (length xs + k) = omega arith in ap (slice_get (x ∷ (xs ++ ys))) e) ∙ behind xs ys k

module _ (m : Module) (typed : IsTypedModule m) (forward : AllGoForward m) (xs : List ProgramPoint) where
  abbrev W : Module
  W = with_points m xs

  module _ (x : ProgramPoint) (inside : x.proc < length m.procs) where
    abbrev p : Proc
    p = proc_at m.procs x.proc

    abbrev q : Proc
    q = pointed m.procs x

    abbrev M : Module
    M = remove_gotos (with_point m x.proc x.number)

    there : slice_get m.procs x.proc ≡ Some p
    there = slice_get-get_or m.procs x.proc _ inside

    its : slice_get M.procs x.proc ≡ Some q
    its = slice_get-map removed (with_point m x.proc x.number).procs x.proc ∙ ap (option_map removed) (in_module m x.proc x.number p there)

    without_point : AreCalledAs (with_point m x.proc x.number).procs m.procs
    without_point = subst (λ o. AreCalledAs (procs_with m.procs x.proc x.number o) m.procs) (sym there)
        (before_set m.procs x.proc p (proc_with_point p x.number) there (called_with_point p x.number))

    called : AreCalledAs M.procs W.procs
    called = through M.procs (with_point m x.proc x.number).procs W.procs (with_gotos (with_point m x.proc x.number).procs)
        (through (with_point m x.proc x.number).procs m.procs W.procs without_point (with_others m.procs (map (pointed m.procs) xs)))

    typed_alone : IsTypedProc M q
    typed_alone = found_in (IsTypedProc M) M.procs x.proc q
        (remove_gotos_stays_typed (with_point m x.proc x.number) (with_point_stays_typed m x.proc x.number typed) (with_point_goes_forward m x.proc x.number forward)).procs its

    typed_behind : IsTypedProc W q
    typed_behind = moved_proc M W.procs (are_like M.procs W.procs called) q typed_alone

    goals_behind : goals_by_passes W q ≡ point_goals m x
    goals_behind = goals_same M W.procs called q typed_alone ∙ sym (ap (goals_of_found M) its)

  typed_each : (ys : List ProgramPoint) → AreOf m.procs ys → AllByRecursion (IsTypedProc W) (map (pointed m.procs) ys)
  typed_each [] h = tt
  typed_each (y ∷ ys) h = (typed_behind y h.0, typed_each ys h.1)

  module _ (h : AreOf m.procs xs) where
    pub with_points_typed : IsTypedModule W
    with_points_typed = record {
      functions = typed.functions;
      axioms = typed.axioms;
      clauses = typed.clauses;
      procs = every_append (IsTypedProc W) m.procs (map (pointed m.procs) xs)
          (moved_procs m W.procs (are_like m.procs W.procs (with_others m.procs (map (pointed m.procs) xs))) m.procs typed.procs) (typed_each xs h);
      texts = typed.texts;
    }

    module _ (k : ℕ) (x : ProgramPoint) (e : slice_get xs k ≡ Some x) where
      found : slice_get W.procs (length m.procs + k) ≡ Some (pointed m.procs x)
      found = behind m.procs (map (pointed m.procs) xs) k ∙ (slice_get-map (pointed m.procs) xs k ∙ ap (option_map (pointed m.procs)) e)

      pub goals_of_point : goals_at W (length m.procs + k) ≡ point_goals m x
      goals_of_point = ap (goals_of_found W) found ∙ goals_behind x (found_in (λ y. y.proc < length m.procs) xs k x h e)

      pub no_goto_behind : (r : Proc) → slice_get W.procs (length m.procs + k) ≡ Some r → BodyHasNoGoto r.body
      no_goto_behind r there =
          let same : pointed m.procs x ≡ r = let c : Some (pointed m.procs x) ≡ Some r = sym found ∙ there in cc in
          subst (λ (z : Proc). BodyHasNoGoto z.body) same (none_left (proc_with_point (proc_at m.procs x.proc) x.number))
