-- Where the search finds a proof of the goal with a point's mark, the procedure doesn't reach the point.
use Rattle.std.proofs.Common.{◌≡◌, ◌∙◌, refl, sym, ap, arith, ℕ, nat_eq, true, false, ◌&&◌, cond, Option, Some, None, is_some, option_map, List, [], ◌∷◌, length, slice_get}
use Rattle.std.proofs.lemmas.Bool.Decides.{nat_tests}
use Rattle.std.proofs.lemmas.Option.{slice_get-map}
use Rattle.std.specs.List.{AllByRecursion, list_all}
use Rattle.logic_core.proofs.Booleans.{both_true}
use Rattle.logic_core.specs.Def.{Obligation}
use Rattle.logic_core.specs.Valid.{Valid}
use Rattle.logic_core.specs.WellSorted.{IsWellSorted}
use Rattle.flow_core.specs.declared.mark.GoalKind.TheVariants as why
use Rattle.flow_core.specs.declared.mark.Mark.{Mark}
use Rattle.proof_core.specs.Proof.{Proof}
use Rattle.proof_core.specs.Soundness.{AcceptanceIsSound}
use Rattle.bpl_model.specs.Module.{Proc, Module}
use Rattle.bpl_goto.specs.Removed.{removed, remove_gotos}
use Rattle.smoke_report.specs.Put.{proc_with_point, with_point}
use Rattle.smoke_report.specs.Kept.{WithPointStaysTyped, WithPointGoesForward}
use Rattle.smoke_report.proofs.Numbered.{kind_is}
use Rattle.tableau.specs.Search.{answer, is_proved, FindsAccepted, FindsWhereProved}
use Rattle.vc_build.specs.declared.goal.Goal.{Goal}
use Rattle.vc_build.specs.Goals.{goals, goals_of_found}
use Rattle.vc_build.specs.Proved.{GoalsAreSorted}
use Rattle.smoke_report.specs.declared.program_point.ProgramPoint.{ProgramPoint}
use Rattle.smoke_report.specs.ProgramPoints.{program_points}
use Rattle.smoke_report.specs.Smoke.{point_goals, is_point, is_mark_of, is_shown, is_shown_or_another, is_unreachable, unreachable}
use Rattle.smoke_report.specs.Unreached.{IsUnreached}
use Rattle.smoke_report.specs.Sound.{ValidPointsAreUnreached, UnreachableIsUnreached}
use Rattle.smoke_report.proofs.PointsOfPrograms.{IsAt, each_is, chosen}
use Rattle.smoke_report.proofs.Unreached.{contained, in_module}

-- the goals of a point are those of its procedure with the point
pub goals_are : (m : Module) (i n : ℕ) (p : Proc) → slice_get m.procs i ≡ Some p → goals_of_found (remove_gotos (with_point m i n)) (slice_get (remove_gotos (with_point m i n)).procs i) ≡ goals (with_point m i n) (proc_with_point p n)
goals_are m i n p e =
    let M = with_point m i n in
    ap (goals_of_found (remove_gotos M)) (slice_get-map removed M.procs i ∙ ap (option_map removed) (in_module m i n p e))

same_number : (n : ℕ) → nat_eq n n ≡ true
same_number n = grind (arith, nat_tests)

-- the point's mark is its mark
its_mark : (x : ProgramPoint) → x.point.mark.kind ≡ why.Point x.number → is_mark_of x x.point.mark ≡ true
its_mark x e =
    let place = x.point.mark.place in
    (λ j. is_point x.number (e j) && (nat_eq place.line place.line && nat_eq place.col place.col))
    ∙ (λ j. same_number x.number j && (same_number place.line j && same_number place.col j))

module _ (sound : AcceptanceIsSound) (accepted : FindsAccepted) (where_proved : FindsWhereProved) (turns : ℕ) where
  shown_valid : (o : Obligation) → IsWellSorted o → is_proved (answer o turns).verdict ≡ true → Valid o
  shown_valid o sorted h = from_found (answer o turns).found refl
    where
      from_found : (found : Option Proof) → (answer o turns).found ≡ found → Valid o
      from_found None e = absurd (let none : is_some (answer o turns).found ≡ false = ap is_some e in let some : is_some (answer o turns).found ≡ true = where_proved o turns ∙ h in cc)
      from_found (Some p) e = sound o p sorted (accepted o turns p sorted e)

  all_valid : (x : ProgramPoint) → is_mark_of x x.point.mark ≡ true → (gs : List Goal) → AllByRecursion (λ g. IsWellSorted g.obligation) gs → list_all (is_shown_or_another turns x) gs ≡ true
      → AllByRecursion (λ g. g.mark ≡ x.point.mark → Valid g.obligation) gs
  all_valid x is [] sorted h = tt
  all_valid x is (g ∷ gs) sorted h =
      let parts = both_true (is_shown_or_another turns x g) (list_all (is_shown_or_another turns x) gs) h in (
        λ e. shown_valid g.obligation sorted.0 (sym (ap (λ b. cond b (is_shown turns g) true) (ap (λ (mark : Mark). is_mark_of x mark) e ∙ is)) ∙ parts.0),
        all_valid x is gs sorted.1 parts.1,
      )

module _ (stays : WithPointStaysTyped) (ahead : WithPointGoesForward) (unreached : ValidPointsAreUnreached) (are_sorted : GoalsAreSorted) (sound : AcceptanceIsSound) (accepted : FindsAccepted) (where_proved : FindsWhereProved) where
  pub unreachable_is_unreached : UnreachableIsUnreached
  unreachable_is_unreached turns m typed forward = record {
    named = unreachable turns m;
    count = length (program_points m);
    said = refl;
    unreached = chosen (IsAt m) (IsUnreached m) (is_unreachable turns m) each (program_points m) (each_is m);
  }
    where
      each : (x : ProgramPoint) → IsAt m x → is_unreachable turns m x ≡ true → IsUnreached m x
      each x a h =
          let i = x.proc in
          let n = x.number in
          let p = a.proc in
          let M = with_point m i n in
          let q = proc_with_point p n in
          let gs = goals M q in
          let same : point_goals m x ≡ gs = goals_are m i n p a.there in
          let sorted = are_sorted M q (stays m i n typed) (ahead m i n forward) (contained M.procs i q (in_module m i n p a.there)) in
          let shown : list_all (is_shown_or_another turns x) gs ≡ true = ap (list_all (is_shown_or_another turns x)) (sym same) ∙ h in
          record {
            proc = p;
            there = a.there;
            named = a.named;
            is_point = a.is_point;
            never = unreached m i n p x.point typed forward a.there a.is_point (all_valid sound accepted where_proved turns x (its_mark x (kind_is p n x.point a.is_point)) gs sorted shown);
          }
