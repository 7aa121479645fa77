-- Each failing run of a plain graph whose targets cover has a failing run of the cut graph, which rises and is plain.
use Rattle.std.proofs.Common.{◌≡◌, refl, sym, ℕ, zero, suc, List, [], ◌∷◌, ◌++◌, map, subst, inl, inr, arith}
use Rattle.std.specs.Prelude.{Contains, All, Option, Some, None}
use Rattle.std.proofs.lemmas.List.Elements.{All-weaker, All-from_get_or, Contains-append_cases}
use Rattle.logic_core.specs.Tree.{Kind}
use Rattle.logic_core.specs.Def.{Def}
use Rattle.flow_core.specs.declared.mark.GoalKind.TheVariants.{InvariantEntry}
use Rattle.flow_core.specs.declared.mark.Mark.{Mark}
use Rattle.flow_core.specs.declared.command.Command.TheVariants.{Assert, Assume, Assign, Havoc}
use Rattle.flow_core.specs.declared.block.Invariant.{Invariant}
use Rattle.flow_core.specs.declared.block.LoopHead.{LoopHead}
use Rattle.flow_core.specs.declared.block.Block.{Block}
use Rattle.flow_core.specs.State.{State}
use Rattle.flow_core.specs.Clause.{Clause, checked, assumed, Breaks}
use Rattle.flow_core.specs.Reader.{command_of}
use Rattle.flow_core.specs.Graph.{Graph, block_at, set_by_each, targets_of}
use Rattle.flow_core.specs.Plain.{InLoop, IsHead}
use Rattle.flow_core.specs.Cover.{TargetsCover}
use Rattle.flow_core.specs.Run.{Position, arrival, within, arrival_kind, clauses_at, IsUntouched, Step, enter, assert_holds, assume_holds, assigned, havocked, follow, Failure, invariant_breaks, assert_breaks, Run, stay, go, Begins, FailingRun}
use Rattle.loop_cut.specs.Cut.{at_head, before_edges, cut_block, cut}
use Rattle.loop_cut.specs.Kept.{MayBeCut, CutKeepsFailures}
use Rattle.loop_cut.proofs.States.{none_in}
use Rattle.loop_cut.proofs.CutBlocks.{cut_at, cut_rises}
use Rattle.loop_cut.proofs.StaysPlain.{owns_at, stays_plain}
use Rattle.loop_cut.proofs.Frame.{head_is}
use Rattle.loop_cut.proofs.Alike.{Seen, all_at, set_cases, reads_seen, holds_there, holds_here, evaluate_there}
use Rattle.loop_cut.proofs.Edges.{no_head}
use Rattle.loop_cut.proofs.Simulated.{CutRun, CutFails, after, Inside, Beside, enter_cut, command_step}
use Rattle.loop_cut.proofs.Followed.{arrives}

-- of what is set in a cut block
no_sets_assumed : (is : List Invariant) (v : ℕ) → Contains (set_by_each (map (λ i. Assume i.formula) is)) v → ⊥
no_sets_assumed [] v h = none_in v h
no_sets_assumed (i ∷ is) v h = no_sets_assumed is v h

no_sets_read : (cs : List Clause) (v : ℕ) → Contains (set_by_each (map command_of cs)) v → ⊥
no_sets_read [] v h = none_in v h
no_sets_read (checked m E ∷ cs) v h = no_sets_read cs v h
no_sets_read (assumed E ∷ cs) v h = no_sets_read cs v h

no_sets_before : (blocks : List Block) (b : ℕ) (next : List ℕ) (v : ℕ) → Contains (set_by_each (before_edges blocks b next)) v → ⊥
no_sets_before blocks b [] v h = none_in v h
no_sets_before blocks b (c ∷ next) v h =
    elim (set_cases (map command_of (clauses_at (arrival_kind b c) (block_at blocks c).head)) (before_edges blocks b next) v h) [
      | inl l ↦ no_sets_read (clauses_at (arrival_kind b c) (block_at blocks c).head) v l
      | inr r ↦ no_sets_before blocks b next v r
    ]

no_sets_head : (o : Option LoopHead) (v : ℕ) → ¬ Contains (targets_of o) v → Contains (set_by_each (at_head o)) v → ⊥
no_sets_head None v n h = none_in v h
no_sets_head (Some head) v n h =
    elim (Contains-append_cases head.targets (set_by_each (map (λ i. Assume i.formula) head.invariants)) v h) [ inl l ↦ n l | inr r ↦ no_sets_assumed head.invariants v r ]

pub sets_nothing_more : (blocks : List Block) (b : ℕ) (k : Block) (v : ℕ) → ¬ Contains (set_by_each k.commands) v → ¬ Contains (targets_of k.head) v → ¬ Contains (set_by_each (cut_block blocks b k).commands) v
sets_nothing_more blocks b k v n t h =
    elim (set_cases (at_head k.head) (k.commands ++ before_edges blocks b k.next) v h) [
      | inl l ↦ no_sets_head k.head v t l
      | inr r ↦ elim (set_cases k.commands (before_edges blocks b k.next) v r) [ inl l ↦ n l | inr s ↦ no_sets_before blocks b k.next v s ]
    ]

stays_untouched : (g : Graph) (d : Def) → IsUntouched g d → IsUntouched (cut g) d
stays_untouched g d u = record {
  commands = λ v m. All-from_get_or (λ k. ¬ Contains (set_by_each k.commands) v) (cut g).blocks (record { commands = []; next = []; head = None }) (λ b below.
      subst (λ (k : Block). ¬ Contains (set_by_each k.commands) v) (sym (cut_at g b)) (sets_nothing_more g.blocks b (block_at g.blocks b) v
      (all_at (λ k. ¬ Contains (set_by_each k.commands) v) g.blocks (λ h. none_in v h) (u.commands v m) b)
      (all_at (λ k. ¬ Contains (targets_of k.head) v) g.blocks (λ h. none_in v h) (u.targets v m) b)));
  targets = λ v m. All-from_get_or (λ k. ¬ Contains (targets_of k.head) v) (cut g).blocks (record { commands = []; next = []; head = None }) (λ b below.
      subst (λ (k : Block). ¬ Contains (targets_of k.head) v) (sym (cut_at g b)) (λ h. none_in v h));
  entry_values = u.entry_values;
}

module _ (defs : List Def) (sorts : List Kind) (g : Graph) (start : State) (may : MayBeCut g) (covers : TargetsCover g) (untouched : All (IsUntouched g) defs) where
  abbrev B : Position → Type 0
  B = Beside defs sorts g start

  beside_step : (p q : Position) → Step defs sorts g p q → B p → B q
  beside_step _ _ (enter pass) i = i.1 pass
  beside_step _ _ (assert_holds {b = b} {m = m} {E = E} {cs = cs} {σ = σ} holds) i =
      command_step defs sorts g start may.plain covers b (Assert m E) cs σ [] refl
      (λ before τ rest a seen. assert_holds (holds_there g defs untouched (Seen g.own before) τ σ a E (λ v x. seen v (0, E, omega arith, refl, x)) holds)) i
  beside_step _ _ (assume_holds {b = b} {E = E} {cs = cs} {σ = σ} holds) i =
      command_step defs sorts g start may.plain covers b (Assume E) cs σ [] refl
      (λ before τ rest a seen. assume_holds (holds_there g defs untouched (Seen g.own before) τ σ a E (λ v x. seen v (0, E, omega arith, refl, x)) holds)) i
  beside_step _ _ (assigned {b = b} {ps = ps} {cs = cs} {σ = σ} vs values fit) i =
      command_step defs sorts g start may.plain covers b (Assign ps) cs σ vs fit
      (λ before τ rest a seen. assigned vs (evaluate_there g defs untouched (Seen g.own before) τ σ a (map (λ p. p.1) ps) vs (λ e there v x. seen v (there.0, e, there.1, there.2, x)) values) fit) i
  beside_step _ _ (havocked {b = b} {xs = xs} {cs = cs} {σ = σ} vs fit) i =
      command_step defs sorts g start may.plain covers b (Havoc xs) cs σ vs fit (λ before τ rest a seen. havocked vs fit) i
  beside_step _ _ (follow {b = b} {σ = σ} c e) i = arrives defs sorts g start may.plain untouched may.only_heads b c e σ i

  beside_run : (p q : Position) → Run defs sorts g p q → B p → B q
  beside_run _ _ stay i = i
  beside_run _ _ (go {p} {q} {r} s rest) i = beside_run q r rest (beside_step p q s i)

  failure : (p : Position) (m : Mark) → Failure defs sorts g p m → B p → CutFails defs sorts g start m
  failure _ _ (invariant_breaks {m = m} h) i = i.0 m h
  failure _ _ (assert_breaks {b = b} {m = m} {E = E} {cs = cs} {σ = σ} wrong) i = (
    within b (Assert m E ∷ (cs ++ after defs sorts g start b)) i.state,
    i.run,
    assert_breaks (λ h. wrong (holds_here g defs untouched (Seen g.own i.before) i.state σ i.alike E
        (λ v x. reads_seen g.own (block_at g.blocks b) (owns_at g.own g.blocks may.plain.calls b) i.before (Assert m E) cs i.split v (0, E, omega arith, refl, x)) h)),
  )

  begins_beside : Begins defs sorts g start → B (arrival InvariantEntry 0 start)
  begins_beside begins = ((λ m h. absurd (subst (λ o. Breaks defs start (clauses_at InvariantEntry o) m) first h)), (λ pass. inside))
    where
      not_head : ¬ IsHead g.blocks 0
      not_head h = (may.plain.heads 0 h).not_first refl

      first : (block_at g.blocks 0).head ≡ None
      first = no_head (block_at g.blocks 0).head not_head

      none_around : (h : ℕ) → IsHead g.blocks h → InLoop g.blocks h 0 → ⊥
      none_around zero is l = not_head is
      none_around (suc h) is l = omega (arith, l.0)

      inside : Inside defs sorts g start 0 (block_at g.blocks 0).commands start
      inside = record {
        before = [];
        split = refl;
        sorted = begins.sorted;
        state = start;
        run = subst (λ o. CutRun defs sorts g start (within 0 (at_head o ++ ((block_at g.blocks 0).commands ++ after defs sorts g start 0)) start)) first (enter_cut defs sorts g start InvariantEntry 0 start stay);
        alike = record { lengths = refl; values = λ v w. refl };
        heads = λ h head is l. absurd (none_around h (head_is g h head is) l);
      }

pub failing_runs_stay : (g : Graph) → MayBeCut g → TargetsCover g → (defs : List Def) (sorts : List Kind) (σ : State) (m : Mark) → FailingRun defs sorts g σ m → FailingRun defs sorts (cut g) σ m
failing_runs_stay g may covers defs sorts σ m f =
    let beside = beside_run defs sorts g σ may covers f.untouched (arrival InvariantEntry 0 σ) f.last f.run (begins_beside defs sorts g σ may covers f.untouched f.begins) in
    let fails = failure defs sorts g σ may covers f.untouched f.last m f.failure beside in
    record {
      untouched = All-weaker (IsUntouched g) (IsUntouched (cut g)) (λ d u. stays_untouched g d u) defs f.untouched;
      begins = record { sorted = f.begins.sorted; entry_values = f.begins.entry_values };
      last = fails.0;
      run = fails.1;
      failure = fails.2;
    }

pub cut_keeps_failures : CutKeepsFailures
cut_keeps_failures g may = record { kept = failing_runs_stay g may; rising = cut_rises g; plain = stays_plain g may.plain }
