-- By logic's laws the premises hold: negations, the sorts of values, and sorts over more variables. So each failing execution has a failing run.
use Rattle.std.specs.Prelude.{◌≡◌, refl, Bool, true, false, not, IsTrue, [], ◌++◌, Contains}
use mathlib.Core.Path.{subst}
use Rattle.logic_core.specs.Tree.{negation}
use Rattle.logic_core.specs.Value.{Value, holds, is_of}
use Rattle.logic_core.specs.Valid.{calls_of}
use Rattle.logic_core.specs.Sorts.{bodies_sorted}
use Rattle.logic_core.proofs.Values.{has_value}
use Rattle.logic_core.proofs.Kept.{keeps, true_stable}
use Rattle.logic_core.proofs.Defined.{has_defined, keeps_defined}
use Rattle.logic_laws.proofs.SortFrame.{within_more, within_itself, sort_over}
use Rattle.logic_laws.proofs.Bodies.{bodies_over}
use Rattle.logic_laws.proofs.Assigned.{sorted_value}
use Rattle.flow_core.specs.State.{HoldsIn}
use Rattle.bpl_model.specs.Module.{Proc, Module}
use Rattle.bpl_model.specs.Numbering.{defs_of, const_sorts, global_sorts, local_sorts, sorts_of}
use Rattle.flow_core.specs.declared.mark.Mark.{Mark}
use Rattle.flow_core.specs.Run.{FailingRun}
use Rattle.bpl_model.specs.NoGoto.{BodyHasNoGoto}
use Rattle.bpl_model.specs.Safe.{Fails}
use Rattle.bpl_model.specs.Cut.{cut_calls}
use Rattle.bpl_model.specs.Typed.{IsTypedModule}
use Rattle.flow_core.specs.Plain.{IsPlain}
use Rattle.flow_core.specs.Cover.{TargetsCover, OnlyHeadsAgain}
use Rattle.bpl_blocks.specs.Blocks.{to_blocks}
use Rattle.bpl_blocks.specs.Kept.{KeepsFailures}
use Rattle.bpl_blocks.proofs.RunCut.{MoreKeepSorts}
use Rattle.bpl_blocks.proofs.ExitWhole.{whole_kept}
use Rattle.bpl_blocks.proofs.ExitPieces.{Flips}
use Rattle.bpl_blocks.proofs.RunWell.{ValuesFit}

pub flips : (m : Module) → Flips m
flips m σ E fails =
    keeps σ (calls_of σ (defs_of m)) (keeps_defined σ (defs_of m)) (negation E) [] (λ v. IsTrue (holds v)) (λ v. true_stable (holds v))
    (λ none. has_value σ (calls_of σ (defs_of m)) (has_defined σ (defs_of m)) E [] (λ v vi. by_value (holds v) (vi (λ u. IsTrue (holds u))).1 (vi (λ u. IsTrue (not (holds u)))).1 none))
  where
    by_value : (b : Bool) → (IsTrue b → HoldsIn (defs_of m) σ E) → (IsTrue (not b) → HoldsIn (defs_of m) σ (negation E)) → (HoldsIn (defs_of m) σ (negation E) → ⊥) → ⊥
    by_value true f g none = fails (f refl)
    by_value false f g none = none (g refl)

pub values_fit : (m : Module) (p : Proc) → IsTrue (bodies_sorted (const_sorts m) [] (defs_of m)) → ValuesFit m p
values_fit m p sorted σ e k v s h is =
    let more = within_more (const_sorts m) (global_sorts m ++ (global_sorts m ++ (local_sorts p.ins ++ (local_sorts p.outs ++ local_sorts p.locals)))) in
    let all = sorted_value (sorts_of m p) (defs_of m) σ (bodies_over (const_sorts m) (sorts_of m p) (defs_of m) more sorted, s) e [] [] k refl h in
    true_stable (is_of k v) (λ none. has_value σ (calls_of σ (defs_of m)) (has_defined σ (defs_of m)) e []
    (λ w wi. none (subst (λ (u : Value). IsTrue (is_of k u)) ((wi (λ u. u ≡ v)).0 is) ((wi (λ u. IsTrue (is_of k u))).0 all))))

pub more_keep : MoreKeepSorts
more_keep m vars more t k h = sort_over vars (defs_of m) (vars ++ more) (defs_of m) (within_more vars more) (within_itself (defs_of m)) t [] [] (within_itself []) k h

-- the failing runs of a typed procedure without gotos, its calls replaced
pub keeps_failures : (m : Module) (p : Proc) → IsTypedModule m → Contains m.procs p → BodyHasNoGoto p.body
    → (mark : Mark) (f : Fails m (cut_calls m p) mark) → FailingRun (defs_of m) (sorts_of m (cut_calls m p)) (to_blocks m (cut_calls m p)) f.from mark
keeps_failures m p typed there none mark f = whole_kept m p (flips m) (values_fit m (cut_calls m p) typed.functions) more_keep typed there none mark f

-- with what is shown of the graph's shape, the law
pub with_shape : (m : Module) (p : Proc) → IsTypedModule m → Contains m.procs p → BodyHasNoGoto p.body
    → IsPlain (to_blocks m (cut_calls m p)) → TargetsCover (to_blocks m (cut_calls m p)) → OnlyHeadsAgain (to_blocks m (cut_calls m p)).blocks → KeepsFailures m (cut_calls m p) (to_blocks m (cut_calls m p))
with_shape m p typed there none plain covered heads = record { kept = keeps_failures m p typed there none; plain = plain; covered = covered; only_heads = heads }
