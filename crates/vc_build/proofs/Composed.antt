-- Each pass keeps failures, so a failing execution has a goal that isn't valid; and where all goals are valid the procedure is safe.
use Rattle.std.specs.Prelude.{◌≡◌, refl, ℕ, ◌∷◌}
use mathlib.Core.Path.{subst, sym}
use Rattle.logic_core.specs.Valid.{Valid}
use Rattle.obligation_text.specs.Canonical.{canonical}
use Rattle.obligation_text.proofs.CanonicalRenames.{canonical_valid}
use Rattle.flow_core.specs.State.{State, HoldsIn}
use Rattle.bpl_model.specs.Module.{Proc, Module}
use Rattle.bpl_model.specs.Numbering.{defs_of}
use Rattle.bpl_model.specs.Typed.{IsTypedModule}
use Rattle.bpl_model.specs.World.{IsEntry}
use Rattle.bpl_model.proofs.Inversion.{of_body}
use Rattle.bpl_goto.specs.Removed.{removed, remove_gotos}
use Rattle.bpl_goto.proofs.NoneLeft.{none_left}
use Rattle.bpl_goto.proofs.StillFails.{still_fails}
use Rattle.bpl_goto.proofs.StaysTyped.{remove_gotos_stays_typed}
use Rattle.quantifier_triggers.specs.Choice.{obligation_with_triggers}
use Rattle.quantifier_triggers.proofs.SameValidity
use Rattle.quantifier_triggers.proofs.SortedObligations
use Rattle.call_cut.proofs.FailuresKept.{cut_calls_keeps_failures}
use Rattle.bpl_blocks.proofs.PlainKept.{with_failures}
use Rattle.bpl_blocks.proofs.ExitLaws.{keeps_failures}
use Rattle.loop_cut.specs.Cut.{cut}
use Rattle.loop_cut.specs.Kept.{CutKeepsFailures}
use Rattle.passive_form.specs.Passive.{BreaksAlong}
use Rattle.passive_form.specs.Kept.{MayBePassified}
use Rattle.passive_form.proofs.KeepsFailures.{passify_keeps_failures}
use Rattle.block_wp.specs.Equations.{equations}
use Rattle.block_wp.proofs.Breaks.{equations_break}
use Rattle.block_wp.proofs.PassiveSorted.{passive_is_sorted}
use Rattle.block_wp.proofs.PassiveObligations.{passive_rises}
use Rattle.vc_build.specs.declared.goal.Goal.{Goal}
use Rattle.vc_build.specs.Goals.{goals, goals_by_passes, goals_with_body, passive_graph}
use Rattle.vc_build.specs.Depends.{reached_axioms}
use Rattle.vc_build.specs.Sound.{FailuresHaveGoalsByPasses, FailuresHaveGoals, ValidGoalsAreSafe}
use Rattle.vc_build.proofs.AxiomsHold.{axioms_hold}
use Rattle.vc_build.proofs.SortedSequents.{graph, sorts, raw, raw_sorted, may_be_passified}
use Rattle.vc_build.proofs.Some.{Has, to_any, in_mapped, all_by_index}
use Rattle.vc_build.proofs.Chain.{no_head, enters_first, graph_has_goal, at_its_end}

-- an entry state is one of the procedure without gotos too
still_entry : (m : Module) (p : Proc) (σ : State) → IsEntry m p σ → IsEntry (remove_gotos m) (removed p) σ
still_entry m p σ e = record { state = record { world = record { sorted = e.state.world.sorted; axioms = e.state.world.axioms }; sorted = e.state.sorted }; old = e.old; clauses = e.clauses; requires = e.requires }

-- an obligation is valid where it is with chosen triggers and numbered anew
valid_before : (m : Module) (p : Proc) → IsTypedModule m → MayBePassified (defs_of m) (sorts m p) (cut (graph m p)) → (k at : ℕ) → Valid (canonical (obligation_with_triggers (raw m p k at))) → Valid (raw m p k at)
valid_before m p typed may k at v =
    let o = raw m p k at in
    let sorted = raw_sorted m p typed may k at in
    SameValidity.valid_before o (canonical_valid (obligation_with_triggers o) (SortedObligations.stays_sorted o sorted) v)

pub without_gotos : CutKeepsFailures → FailuresHaveGoalsByPasses
without_gotos cut_law m p typed there none mark f =
    let kept = (cut_calls_keeps_failures m p typed there none).kept mark f in
    let made = with_failures m p typed there (keeps_failures m p typed there none) in
    let run = made.kept mark kept.fails in
    let cut_kept = cut_law (graph m p) (record { plain = made.plain; only_heads = made.only_heads }) in
    let may = may_be_passified cut_law m p typed there none in
    let cut_run = cut_kept.kept made.covered (defs_of m) (sorts m p) kept.fails.from mark run in
    let a = passify_keeps_failures (defs_of m) (sorts m p) (cut (graph m p)) may kept.fails.from mark cut_run in
    let start = enters_first (defs_of m) (sorts m p) (cut (graph m p)) (no_head (graph m p).blocks 0 (graph m p).blocks 0) cut_run.run cut_run.failure in
    let along = subst (λ bs. BreaksAlong (defs_of m) (passive_graph m p) a.frees bs a.block a.place mark) start.1 a.breaks in
    let broken = equations_break (passive_graph m p) (defs_of m) (passive_rises (defs_of m) (sorts m p) (cut (graph m p)) may) (passive_is_sorted (defs_of m) (sorts m p) (cut (graph m p)) may) a.frees start.0 a.block a.place mark along in
    let holding = all_by_index (λ E. HoldsIn (equations (passive_graph m p) (defs_of m) a.block a.place).defs a.frees E) (reached_axioms m p) (axioms_hold m p typed may mark kept.fails cut_run a a.block a.place) in
    let in_graph = graph_has_goal (λ g. (g.mark ≡ mark) × ¬ Valid g.obligation) (passive_graph m p) (defs_of m) (reached_axioms m p) a.frees a.block a.place mark
    (at_its_end (defs_of m) (passive_graph m p) a.frees (0 ∷ start.0) a.block a.place mark along)
    (refl, λ v. broken (valid_before m p typed may a.block a.place v a.frees a.sorted holding)) in
    let b = of_body f.fails in
    to_any (λ g. (g.mark ≡ mark) × ¬ Valid g.obligation) (goals_by_passes m p)
    (subst (λ o. Has (λ g. (g.mark ≡ mark) × ¬ Valid g.obligation) (goals_with_body m p o)) (sym b.1) in_graph)

pub failures_have_goals : FailuresHaveGoalsByPasses → FailuresHaveGoals
failures_have_goals by_passes m p typed ahead there mark f =
    by_passes (remove_gotos m) (removed p) (remove_gotos_stays_typed m typed ahead) (in_mapped removed m.procs p there) (none_left p) mark
    (record { from = f.from; entry = still_entry m p f.from f.entry; fails = still_fails m p typed there f.from mark f.fails })

pub valid_goals_are_safe : FailuresHaveGoals → ValidGoalsAreSafe
valid_goals_are_safe have m p typed ahead there valid mark f =
    let x = have m p typed ahead there mark f in
    x.4.1 (subst (λ (g : Goal). Valid g.obligation) x.3 (all_by_index (λ g. Valid g.obligation) (goals m p) valid x.0 x.1 x.2))
