-- One command of a block: its formulas say of each assignment that begins with the values so far what the command says of the state.
use Rattle.std.specs.Prelude.{◌≡◌, refl, ℕ, zero, suc, ◌<◌, ◌≤◌, ◌⊎◌, List, [], ◌∷◌, ◌++◌, map, length, slice_index_or, Some, None, true, IsTrue, Contains, All}
use Rattle.std.specs.List.{AllByRecursion}
use Rattle.std.proofs.Common.{arith, ap, ◌∙◌, sym, subst}
use Rattle.std.proofs.lemmas.Bool.{cases_lt}
use Rattle.std.proofs.lemmas.List.{append-nil, length-append, get_or_at, take_at}
use Rattle.std.proofs.lemmas.List.Concat.{flat_map-append}
use Rattle.std.proofs.lemmas.List.Elements.{recursion_from_All, Contains-append_left, Contains-append_right, Contains-append_cases}
use mathlib.Core.Logic.{inl, inr}
use Rattle.logic_core.specs.Tree.{Kind, int, boolean, Tree, free}
use Rattle.logic_core.specs.Subterm.{occurs}
use Rattle.logic_core.specs.Variables.{renamed}
use Rattle.logic_core.specs.Def.{Def}
use Rattle.logic_core.specs.Value.{Value, are_of, at}
use Rattle.logic_core.specs.Sorts.{sort_of}
use Rattle.flow_core.specs.declared.mark.Mark.{Mark}
use Rattle.flow_core.specs.declared.command.Command.{Command}
use Rattle.flow_core.specs.declared.command.Command.TheVariants.{Assert, Assume, Assign, Havoc}
use Rattle.flow_core.specs.declared.block.Block.{Block}
use Rattle.flow_core.specs.State.{State, HoldsIn, AllHold, EvaluateTo, FitSorts, update}
use Rattle.flow_core.specs.Graph.{Graph, block_at, set_by, set_by_each}
use Rattle.flow_core.specs.Reading.{read_by, Reads}
use Rattle.flow_core.specs.Plain.{SetsBeforeReading}
use Rattle.flow_core.specs.Run.{IsUntouched}
use Rattle.passive_form.specs.Passive.{formula_in, formulas}
use Rattle.passive_form.specs.Sorted.{IsSortedPair, IsSortedCommand}
use Rattle.passive_form.specs.declared.made.Made.{Made}
use Rattle.passive_form.specs.Incarnations.{incarnation, read, anew, also, assigned, havocked, perform}
use Rattle.passive_form.specs.Kept.{MayBePassified}
use Rattle.passive_form.proofs.Lists.{Prefix, prefix_next}
use Rattle.passive_form.proofs.Renamed.{AgreeIn}
use Rattle.passive_form.proofs.Agreeing.{AgreeInBodies, holds_there, holds_here, evaluates_there}
use Rattle.passive_form.proofs.Mentioned.{mentioned_there, bodies_there}
use Rattle.passive_form.proofs.Values.{at_kept, are_length, update_fits, update_other}
use Rattle.passive_form.proofs.Present.{Present, present_less, present_also, havocked_present, HoldSoFar, so_far_more, so_far_also, assigned_present}

abbrev pub no_block : Block
no_block = record { commands = []; next = []; head = None }

get_map : {A B : Type 0} (f : A → B) (xs : List A) (k : ℕ) (d : A) (e : B) → k < length xs → slice_index_or (map f xs) k e ≡ f (slice_index_or xs k d)
get_map f [] k d e h = absurd (omega arith)
get_map f (x ∷ xs) zero d e h = refl
get_map f (x ∷ xs) (suc k) d e h = get_map f xs k d e (omega arith)

same_targets : (f : Tree → Tree) (ps : List (ℕ × Tree)) → map (λ (p : ℕ × Tree). p.0) (map (λ (p : ℕ × Tree). (p.0, f p.1)) ps) ≡ map (λ (p : ℕ × Tree). p.0) ps
same_targets f [] = refl
same_targets f ((x, t) ∷ ps) = ap (λ l. x ∷ l) (same_targets f ps)

length_map : {A B : Type 0} (f : A → B) (xs : List A) → length (map f xs) ≡ length xs
length_map f [] = refl
length_map f (x ∷ xs) = ap suc (length_map f xs)

pub same_formulas : (s : Made) (xs : List ℕ) → (havocked s xs).commands ≡ s.commands
same_formulas s [] = refl
same_formulas s (x ∷ xs) = same_formulas (anew s x) xs

module _ (defs : List Def) (vars : List Kind) (g : Graph) (may : MayBePassified defs vars g) (σ₀ : State) (are₀ : are_of vars σ₀ ≡ true) (untouched : All (IsUntouched g) defs) where
  -- no block sets the variable
  abbrev pub Constant : ℕ → Type 0
  Constant v = All (λ k. ¬ Contains (set_by_each k.commands) v) g.blocks

  pub record Fits (σ : State) : Type 0 where
    pub are : are_of vars σ ≡ true
    pub kept : (v : ℕ) → v < length vars → Constant v → at σ v ≡ at σ₀ v

  abbrev pub Covered : List Command → ℕ → Type 0
  Covered before v = (v < g.own) ⊎ Contains (set_by_each before) v

  -- after these commands of a block
  pub record Going (before : List Command) (s : Made) (vals : List Value) (σ : State) : Type 0 where
    pub present : Present vars (Covered before) s vals σ
    pub so_far : HoldSoFar vars defs s vals
    pub fits : Fits σ
    pub begins : Prefix σ₀ vals

  abbrev pub Goes : List Command → Made → List Value → State → Type 0
  Goes before s vals σ = (more : List Value) × Prefix vals more × Going before s more σ

  bodies_agree : (σ frees : State) → Fits σ → Prefix σ₀ frees → (ds : List Def) → AllByRecursion (IsUntouched g) ds → ((v : ℕ) → AllByRecursion (λ d. IsTrue (occurs (free v) d.body) → v < length vars) ds) → AgreeInBodies σ frees ds
  bodies_agree σ frees f p [] u b = tt
  bodies_agree σ frees f p (d ∷ ds) u b =
      (λ v m. let low : v < length vars = (b v).0 m in f.kept v low (u.0.commands v m) ∙ sym (at_kept σ₀ frees v p (subst (λ n. v < n) (are_length vars σ₀ are₀) low)), bodies_agree σ frees f p ds u.1 (λ v. (b v).1))

  pub agree_in_bodies : (σ frees : State) → Fits σ → Prefix σ₀ frees → AgreeInBodies σ frees defs
  agree_in_bodies σ frees f p = bodies_agree σ frees f p defs (recursion_from_All (IsUntouched g) defs untouched) (λ v. bodies_there vars v [] defs may.definitions)

  -- at command c of block b
  module _ (b : ℕ) (here : b < length g.blocks) (before : List Command) (c : Command) (after : List Command) (is : before ++ c ∷ after ≡ (block_at g.blocks b).commands) where
    sorted_here : IsSortedCommand defs vars c
    sorted_here =
        let all : All (IsSortedCommand defs vars) (before ++ c ∷ after) = subst (All (IsSortedCommand defs vars)) (sym is) (may.sorted b no_block here).commands in
        let low : length before < length (before ++ c ∷ after) = omega (arith, length-append before (c ∷ after)) in
        subst (IsSortedCommand defs vars) (get_or_at before c after c (length before) refl) (all (length before) c low)

    set_before : (v : ℕ) → g.own ≤ v → Reads c v → Contains (set_by_each before) v
    set_before v h r =
        let all : SetsBeforeReading g.own (before ++ c ∷ after) = subst (SetsBeforeReading g.own) (sym is) (may.plain.calls b no_block here).set_first in
        let low : length before < length (before ++ c ∷ after) = omega (arith, length-append before (c ∷ after)) in
        let reads : Reads (slice_index_or (before ++ c ∷ after) (length before) c) v = subst (λ d. Reads d v) (sym (get_or_at before c after c (length before) refl)) r in
        subst (λ l. Contains (set_by_each l) v) (take_at before (c ∷ after) (length before) refl) (all (length before) v c low h reads)

    covered : (v : ℕ) → Reads c v → Covered before v
    covered v r = elim (cases_lt v g.own) [ inl l ↦ inl l | inr h ↦ inr (set_before v h r) ]

    avoided : (v : ℕ) → Constant v → ¬ Contains (set_by c) v
    avoided v k m =
        let inside : Contains (set_by_each (c ∷ after)) v = Contains-append_left (set_by c) (set_by_each after) v m in
        let all : Contains (set_by_each (before ++ c ∷ after)) v = subst (λ l. Contains l v) (sym (flat_map-append set_by before (c ∷ after))) (Contains-append_right (set_by_each before) (set_by_each (c ∷ after)) v inside) in
        k b no_block here (subst (λ l. Contains (set_by_each l) v) is all)

    one_more : (v : ℕ) → Covered (before ++ c ∷ []) v → Contains (set_by c) v ⊎ Covered before v
    one_more v (inl l) = inr (inl l)
    one_more v (inr m) =
        let both : Contains (set_by_each before ++ (set_by c ++ [])) v = subst (λ l. Contains l v) (flat_map-append set_by before (c ∷ [])) m in
        elim (Contains-append_cases (set_by_each before) (set_by c ++ []) v both) [
          | inl k ↦ inr (inr k)
          | inr k ↦ inl (subst (λ l. Contains l v) (append-nil (set_by c)) k)
        ]

    -- what the command reads is the same in the state and, over the present incarnations, in the assignment
    agree_read : (s : Made) (vals : List Value) (σ frees : State) → Going before s vals σ → Prefix vals frees → (t : Tree) (k : ℕ) (j : Kind) → k < length (read_by c) → slice_index_or (read_by c) k t ≡ t → sort_of vars defs [] t ≡ Some j → AgreeIn (incarnation s.present) σ frees t
    agree_read s vals σ frees go p t k j low e sort v m =
        let there : v < length vars = mentioned_there vars v defs t j sort m in
        let r = go.present.says v there (covered v (k, t, low, e, m)) in
        let short : incarnation s.present v < length vals = subst (λ n. incarnation s.present v < n) (are_length s.sorts vals go.present.are) r.0 in
        sym (at_kept vals frees (incarnation s.present v) p short ∙ r.1)

    bodies_here : (s : Made) (vals : List Value) (σ frees : State) → Going before s vals σ → Prefix vals frees → AgreeInBodies σ frees defs
    bodies_here s vals σ frees go p = agree_in_bodies σ frees go.fits (prefix_next σ₀ vals frees go.begins p)

    no_target : (v : ℕ) → set_by c ≡ [] → Contains (set_by c) v → ⊥
    no_target v none k = let q : Contains [] v = subst (λ l. Contains l v) none k in let z : q.0 < 0 = q.1 in absurd (omega arith)

    unchanged : (s : Made) (vals : List Value) (σ : State) (d : Command) → set_by c ≡ [] → Going before s vals σ → ((frees : State) → Prefix vals frees → HoldsIn defs frees (formula_in d)) → Going (before ++ c ∷ []) (also s d) vals σ
    unchanged s vals σ d none go h = record {
      present = present_also vars (Covered (before ++ c ∷ [])) s d vals σ (present_less vars (Covered before) (Covered (before ++ c ∷ [])) s vals σ
          (λ v l m. elim (one_more v m) [ inl k ↦ absurd (no_target v none k) | inr k ↦ k ]) go.present);
      so_far = so_far_also vars defs s vals d go.so_far h;
      fits = go.fits;
      begins = go.begins;
    }

    fits_after : (σ : State) (ws : List Value) → FitSorts vars (set_by c) ws → Fits σ → Fits (update σ (set_by c) ws)
    fits_after σ ws f k = record {
      are = update_fits vars (set_by c) ws σ f k.are;
      kept = λ v l n. update_other vars (set_by c) ws σ v (avoided v n) ∙ k.kept v l n;
    }

    -- set to these values, in a state over new incarnations
    changed : (s : Made) (vals : List Value) (σ : State) (ws : List Value) → Going before s vals σ → FitSorts vars (set_by c) ws
        → Present vars (λ v. Contains (set_by c) v ⊎ Covered before v) (perform s c) (vals ++ ws) (update σ (set_by c) ws) → HoldSoFar vars defs (perform s c) (vals ++ ws)
        → Goes (before ++ c ∷ []) (perform s c) vals (update σ (set_by c) ws)
    changed s vals σ ws go f p h = (
      vals ++ ws,
      (ws, refl),
      record {
        present = present_less vars (λ v. Contains (set_by c) v ⊎ Covered before v) (Covered (before ++ c ∷ [])) (perform s c) (vals ++ ws) (update σ (set_by c) ws) (λ v l m. one_more v m) p;
        so_far = h;
        fits = fits_after σ ws f go.fits;
        begins = prefix_next σ₀ vals (vals ++ ws) go.begins (ws, refl);
      },
    )

  targets_there : (f : Tree → Tree) (ps : List (ℕ × Tree)) → AllByRecursion (IsSortedPair defs vars) ps → AllByRecursion (λ x. x < length vars) (map (λ (p : ℕ × Tree). p.0) (map (λ (p : ℕ × Tree). (p.0, f p.1)) ps))
  targets_there f [] h = tt
  targets_there f (p ∷ ps) h = (h.0.0, targets_there f ps h.1)

  values_there : (new : ℕ → ℕ) (σ frees : State) → AgreeInBodies σ frees defs → (ps : List (ℕ × Tree)) (ws : List Value) → AllByRecursion (λ p. AgreeIn new σ frees p.1) ps → EvaluateTo defs σ (map (λ (p : ℕ × Tree). p.1) ps) ws
      → EvaluateTo defs frees (map (λ (p : ℕ × Tree). p.1) (map (λ (p : ℕ × Tree). (p.0, renamed new p.1)) ps)) ws
  values_there new σ frees bodies [] [] a h = tt
  values_there new σ frees bodies (p ∷ ps) (w ∷ ws) a h = (evaluates_there σ frees defs bodies new p.1 w a.0 h.0, values_there new σ frees bodies ps ws a.1 h.1)
  values_there new σ frees bodies [] (w ∷ ws) a h = absurd h
  values_there new σ frees bodies (p ∷ ps) [] a h = absurd h

  -- the four commands
  module _ (b : ℕ) (here : b < length g.blocks) (before after : List Command) (s : Made) (vals : List Value) (σ : State) (go : Going before s vals σ) where
    pub assert_goes : (m : Mark) (E : Tree) → before ++ Assert m E ∷ after ≡ (block_at g.blocks b).commands → HoldsIn defs σ E → Going (before ++ Assert m E ∷ []) (perform s (Assert m E)) vals σ
    assert_goes m E is h =
        let c : Command = Assert m E in
        unchanged b here before c after is s vals σ (Assert m (read s.present E)) refl go
        (λ frees p. holds_there σ frees defs (bodies_here b here before c after is s vals σ frees go p) (incarnation s.present) E
        (agree_read b here before c after is s vals σ frees go p E 0 boolean (omega arith) refl (sorted_here b here before c after is)) h)

    pub assert_breaks_there : (m : Mark) (E : Tree) → before ++ Assert m E ∷ after ≡ (block_at g.blocks b).commands → (frees : State) → Prefix vals frees → HoldsIn defs frees (read s.present E) → HoldsIn defs σ E
    assert_breaks_there m E is frees p h =
        let c : Command = Assert m E in
        holds_here σ frees defs (bodies_here b here before c after is s vals σ frees go p) (incarnation s.present) E
        (agree_read b here before c after is s vals σ frees go p E 0 boolean (omega arith) refl (sorted_here b here before c after is)) h

    pub assume_goes : (E : Tree) → before ++ Assume E ∷ after ≡ (block_at g.blocks b).commands → HoldsIn defs σ E → Going (before ++ Assume E ∷ []) (perform s (Assume E)) vals σ
    assume_goes E is h =
        let c : Command = Assume E in
        unchanged b here before c after is s vals σ (Assume (read s.present E)) refl go
        (λ frees p. holds_there σ frees defs (bodies_here b here before c after is s vals σ frees go p) (incarnation s.present) E
        (agree_read b here before c after is s vals σ frees go p E 0 boolean (omega arith) refl (sorted_here b here before c after is)) h)

    pub assign_goes : (ps : List (ℕ × Tree)) (ws : List Value) → before ++ Assign ps ∷ after ≡ (block_at g.blocks b).commands → EvaluateTo defs σ (map (λ p. p.1) ps) ws → FitSorts vars (map (λ p. p.0) ps) ws
        → Goes (before ++ Assign ps ∷ []) (perform s (Assign ps)) vals (update σ (map (λ p. p.0) ps) ws)
    assign_goes ps ws is h f =
        let c : Command = Assign ps in
        let qs : List (ℕ × Tree) = map (λ (p : ℕ × Tree). (p.0, read s.present p.1)) ps in
        let e : map (λ (p : ℕ × Tree). p.0) qs ≡ map (λ (p : ℕ × Tree). p.0) ps = same_targets (read s.present) ps in
        let sorted : All (IsSortedPair defs vars) ps = sorted_here b here before c after is in
        let agree : (frees : State) → Prefix vals frees → AllByRecursion (λ p. AgreeIn (incarnation s.present) σ frees p.1) ps =
        λ frees p. recursion_from_All (λ p. AgreeIn (incarnation s.present) σ frees p.1) ps
        (λ k d low. agree_read b here before c after is s vals σ frees go p (slice_index_or ps k d).1 k (slice_index_or vars (slice_index_or ps k d).0 int)
        (subst (λ n. k < n) (sym (length_map (λ (p : ℕ × Tree). p.1) ps)) low) (get_map (λ (p : ℕ × Tree). p.1) ps k d (slice_index_or ps k d).1 low) (sorted k d low).1) in
        let r = assigned_present vars defs (Covered before) qs ws s vals σ (targets_there (read s.present) ps (recursion_from_All (IsSortedPair defs vars) ps sorted)) (subst (λ xs. FitSorts vars xs ws) (sym e) f) go.fits.are
        (λ frees p. values_there (incarnation s.present) σ frees (bodies_here b here before c after is s vals σ frees go p) ps ws (agree frees p) h) go.so_far go.present in
        changed b here before c after is s vals σ ws go f (subst (λ xs. Present vars (λ v. Contains xs v ⊎ Covered before v) (assigned s qs) (vals ++ ws) (update σ xs ws)) e r.0) r.1

    pub havoc_goes : (xs : List ℕ) (ws : List Value) → before ++ Havoc xs ∷ after ≡ (block_at g.blocks b).commands → FitSorts vars xs ws → Goes (before ++ Havoc xs ∷ []) (perform s (Havoc xs)) vals (update σ xs ws)
    havoc_goes xs ws is f =
        let c : Command = Havoc xs in
        let there : AllByRecursion (λ x. x < length vars) xs = recursion_from_All (λ x. x < length vars) xs (sorted_here b here before c after is) in
        let more : HoldSoFar vars defs s (vals ++ ws) = so_far_more vars defs s vals (vals ++ ws) (ws, refl) go.so_far in
        changed b here before c after is s vals σ ws go f (havocked_present vars (Covered before) xs ws s vals σ there f go.fits.are go.present)
        (λ frees p. subst (λ cs. AllHold defs frees (formulas cs)) (sym (same_formulas s xs)) (more frees p))
