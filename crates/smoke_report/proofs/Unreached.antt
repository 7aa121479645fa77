-- A procedure doesn't reach a point of which all goals are valid.
use Rattle.std.proofs.Common.{◌≡◌, ◌∙◌, sym, ap, subst, ℕ, List, slice_get, Option, Some, None, Contains}
use Rattle.std.proofs.lemmas.Option.{slice_get_within, get_or_from_slice_get}
use Rattle.std.specs.List.{AllByRecursion}
use Rattle.logic_core.specs.Valid.{Valid}
use Rattle.flow_core.specs.State.{State}
use Rattle.flow_core.specs.declared.mark.Mark.{Mark}
use Rattle.bpl_model.specs.Module.{Proc, Module}
use Rattle.bpl_model.specs.World.{IsEntry}
use Rattle.bpl_goto.proofs.StillFails.{of_contained}
use Rattle.smoke_report.specs.declared.point.Point.{Point}
use Rattle.smoke_report.specs.Points.{point_at}
use Rattle.smoke_report.specs.Put.{proc_with, proc_with_point, procs_with, with_point}
use Rattle.smoke_report.specs.Kept.{WithPointStaysTyped, WithPointGoesForward}
use Rattle.smoke_report.proofs.Found.{set_found}
use Rattle.vc_build.specs.declared.goal.Goal.{Goal}
use Rattle.vc_build.specs.Goals.{goals}
use Rattle.vc_build.specs.Sound.{FailuresHaveGoals}
use Rattle.smoke_report.specs.Sound.{ValidPointsAreUnreached}

-- what is found at a place is there
pub contained : {A : Type 0} (xs : List A) (i : ℕ) (x : A) → slice_get xs i ≡ Some x → Contains xs x
contained xs i x e = (i, slice_get_within xs i x e, get_or_from_slice_get xs i x x e)

-- the procedure with the point is in the module with the point
pub in_module : (m : Module) (i n : ℕ) (p : Proc) → slice_get m.procs i ≡ Some p → slice_get (with_point m i n).procs i ≡ Some (proc_with_point p n)
in_module m i n p e =
    ap (λ o. slice_get (procs_with m.procs i n o) i) e ∙ set_found m.procs i p (proc_with_point p n) e

-- the entry states of a procedure with a point are those without
entry_with : (m : Module) (ps : List Proc) (p : Proc) (n : ℕ) (o : Option Point) (σ : State) → IsEntry m p σ → IsEntry (record m { procs = ps }) (proc_with p n o) σ
entry_with m ps p n None σ e = record {
  state = record { world = record { sorted = e.state.world.sorted; axioms = e.state.world.axioms }; sorted = e.state.sorted };
  old = e.old;
  clauses = e.clauses;
  requires = e.requires;
}
entry_with m ps p n (Some x) σ e = record {
  state = record { world = record { sorted = e.state.world.sorted; axioms = e.state.world.axioms }; sorted = e.state.sorted };
  old = e.old;
  clauses = e.clauses;
  requires = e.requires;
}

-- each goal with the mark is valid
abbrev AreValid : List Goal → Mark → Type 0
AreValid gs mark = AllByRecursion (λ g. g.mark ≡ mark → Valid g.obligation) gs

module _ (stays : WithPointStaysTyped) (ahead : WithPointGoesForward) (failures : FailuresHaveGoals) where
  pub valid_unreached : ValidPointsAreUnreached
  valid_unreached m i n p x typed forward there is valid r =
      let M = with_point m i n in
      let q = r.proc in
      let q' = proc_with_point q n in
      let same_proc : p ≡ q = let c : Some p ≡ Some q = sym there ∙ r.named in cc in
      let same_point : x ≡ r.point = let c : Some x ≡ Some r.point = sym is ∙ ap (λ (z : Proc). point_at z n) same_proc ∙ r.numbered in cc in
      let its : AreValid (goals M q') r.point.mark = subst (λ (z : Proc). AreValid (goals M (proc_with_point z n)) r.point.mark) same_proc (subst (λ (y : Point). AreValid (goals M (proc_with_point p n)) y.mark) same_point valid) in
      let any = failures M q' (stays m i n typed) (ahead m i n forward) (contained M.procs i q' (in_module m i n q r.named)) r.point.mark
      (record { from = r.from; entry = entry_with m M.procs q n (point_at q n) r.from r.entry; fails = r.reached }) in
      let g = any.1 in
      (any.4).1 (of_contained (λ (h : Goal). h.mark ≡ r.point.mark → Valid h.obligation) (goals M q') g its (any.0, any.2, any.3) (any.4).0)
