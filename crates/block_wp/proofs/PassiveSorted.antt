-- The passive form of a graph that may be passified has well-sorted formulas, as the equations ask.
use Rattle.std.specs.Prelude.{◌≡◌, refl, ℕ, zero, suc, ◌+◌, ◌<◌, ◌≤◌, nat_eq, nat_lt, Bool, true, false, not, cond, List, [], ◌∷◌, ◌++◌, map, length, filter, slice_index_or, find, flat_map, unwrap_or, option_map, Some, None, All}
use Rattle.std.specs.List.{AllByRecursion, list_all, range_with_len}
use Rattle.std.proofs.Common.{arith, ap, ◌∙◌}
use Rattle.std.proofs.lemmas.Bool.{eqb-true, eq-eqb, and_from, cases_lt, cond_both}
use Rattle.std.proofs.lemmas.List.{get_or_past, get_or-map, length-map}
use Rattle.std.proofs.lemmas.List.FromFn.{length-range_with_len, get_or-range_with_len}
use Rattle.std.proofs.lemmas.List.Elements.{All-from_recursion, recursion_from_All}
use mathlib.Core.Path.{subst, sym}
use mathlib.Core.Logic.{inl, inr}
use Rattle.logic_core.specs.Tree.{Kind, int, free, equal}
use Rattle.logic_core.specs.Def.{Def}
use Rattle.logic_core.proofs.EachOf.{every_append, every_map}
use Rattle.flow_core.specs.declared.command.Command.TheVariants.{Assume}
use Rattle.flow_core.specs.Graph.{Graph, block_at}
use Rattle.passive_form.specs.Sorted.{IsSortedBlock, IsSortedCommand}
use Rattle.passive_form.specs.Kept.{IsPairOfOneSort, MayBePassified}
use Rattle.passive_form.specs.declared.made.Made.{Made}
use Rattle.passive_form.specs.declared.done.Done.{Done}
use Rattle.passive_form.specs.Incarnations.{Incarnations, incarnation, first_incarnation, first_incarnations, havocked, perform_all, new_at_join, nothing_done, numbers, predecessors, disagree, arriving, do_block, do_blocks, equations_for, passive_block, passify}
use Rattle.passive_form.proofs.Lists.{Prefix, prefix_itself, prefix_next}
use Rattle.passive_form.proofs.Growing.{grows_havocked, grows_all}
use Rattle.block_wp.specs.Broken.{FormulasAreSorted}
use Rattle.block_wp.proofs.PassiveMade.{get_there, HasSortOf, FitsNow, HasFormula, SoundMade, get_more, formulas_more, fits_more, first_fits, equal_sorted, sound_havocked, sound_all, IsNewPair, joined_fit}

passing : {A : Type 0} (p : A → Bool) (P : A → Type 0) (xs : List A) → ((x : A) → p x ≡ true → P x) → AllByRecursion P (filter p xs)
passing p P [] f = tt
passing p P (x ∷ xs) f = by_test (p x) refl (passing p P xs f)
  where
    by_test : (b : Bool) → p x ≡ b → AllByRecursion P (filter p xs) → AllByRecursion P (cond b (x ∷ filter p xs) (filter p xs))
    by_test true e h = (f x e, h)
    by_test false e h = h

to_mapped : {A B : Type 0} (P : B → Type 0) (f : A → B) (xs : List A) → ((x : A) → P (f x)) → AllByRecursion P (map f xs)
to_mapped P f [] h = tt
to_mapped P f (x ∷ xs) h = (h x, to_mapped P f xs h)

each_mapped : {A B : Type 0} (P : B → Type 0) (Q : A → Type 0) (f : A → B) → ((x : A) → Q x → P (f x)) → (xs : List A) → AllByRecursion Q xs → AllByRecursion P (map f xs)
each_mapped P Q f g [] h = tt
each_mapped P Q f g (x ∷ xs) h = (g x h.0, each_mapped P Q f g xs h.1)

to_flat : {A B : Type 0} (P : B → Type 0) (f : A → List B) (xs : List A) → ((x : A) → AllByRecursion P (f x)) → AllByRecursion P (flat_map f xs)
to_flat P f [] h = tt
to_flat P f (x ∷ xs) h = every_append P (f x) (flat_map f xs) (h x) (to_flat P f xs h)

-- one of them, or what stands for none
one_of : {A : Type 0} (P : A → Type 0) (xs : List A) (n : ℕ) (d : A) → P d → AllByRecursion P xs → P (slice_index_or xs n d)
one_of P [] n d e h = e
one_of P (x ∷ xs) zero d e h = h.0
one_of P (x ∷ xs) (suc n) d e h = one_of P xs n d e h.1

module _ (defs : List Def) (vars : List Kind) where
  abbrev Fits : List Kind → Incarnations → Type 0
  Fits sorts now = FitsNow vars defs sorts now

  -- incarnations of the variables by a rule
  by_rule : (sorts : List Kind) (f : ℕ → ℕ) (n : ℕ) → n ≡ length vars → ((v : ℕ) → v < length vars → HasSortOf vars defs sorts (f v) v) → Fits sorts (map f (range_with_len 0 n))
  by_rule sorts f n e h = record {
    fits = λ v below.
        let inside : v < length (range_with_len 0 n) = omega (below, e, length-range_with_len 0 n, arith) in
        let there : slice_index_or (range_with_len 0 n) v v ≡ v = get_or-range_with_len 0 n v v (omega (below, e, arith)) ∙ (let q : 0 + v ≡ v = omega arith in q) in
        subst (λ u. HasSortOf vars defs sorts u v) (sym (get_or-map f (range_with_len 0 n) v v v inside ∙ ap f there)) (h v below);
    beyond = λ v past. get_or_past (map f (range_with_len 0 n)) v v (omega (past, e, length-map (range_with_len 0 n) f, length-range_with_len 0 n, arith));
  }

  pub record SoundDone (sorts : List Kind) (d : Done) : Type 0 where
    pub joined : AllByRecursion (IsNewPair vars defs sorts) d.joined
    pub formulas : AllByRecursion (HasFormula vars defs sorts) d.commands
    pub last : Fits sorts d.last

  nothing_sound : (sorts : List Kind) → Prefix vars sorts → SoundDone sorts nothing_done
  nothing_sound sorts p = record { joined = tt; formulas = tt; last = record { fits = λ v below. first_fits vars defs sorts p v below; beyond = λ v past. refl } }

  done_more : (sorts sorts' : List Kind) → Prefix sorts sorts' → (d : Done) → SoundDone sorts d → SoundDone sorts' d
  done_more sorts sorts' p d h = record {
    joined = every_map (IsNewPair vars defs sorts) (IsNewPair vars defs sorts') (λ q r. (r.0, get_more vars defs sorts sorts' p q.1 q.0 r.1)) d.joined h.joined;
    formulas = formulas_more vars defs sorts sorts' p d.commands h.formulas;
    last = fits_more vars defs sorts sorts' p d.last h.last;
  }

  module _ (g : Graph) (may : MayBePassified defs vars g) where
    first_sort : (v : ℕ) → v < length vars → HasSortOf vars defs vars (first_incarnation g v) v
    first_sort v below = by_pairs g.olds (recursion_from_All (IsPairOfOneSort vars) g.olds may.olds)
      where
        by_pairs : (ps : List (ℕ × ℕ)) → AllByRecursion (IsPairOfOneSort vars) ps → HasSortOf vars defs vars (unwrap_or (option_map (λ (p : ℕ × ℕ). p.0) (find (λ p. nat_eq v p.1) ps)) v) v
        by_pairs [] h = get_there vars v int below
        by_pairs (p ∷ ps) h = by_test (nat_eq v p.1) refl (by_pairs ps h.1)
          where
            by_test : (b : Bool) → nat_eq v p.1 ≡ b → HasSortOf vars defs vars (unwrap_or (option_map (λ (p : ℕ × ℕ). p.0) (find (λ p. nat_eq v p.1) ps)) v) v
                → HasSortOf vars defs vars (unwrap_or (option_map (λ (p : ℕ × ℕ). p.0) (cond b (Some p) (find (λ p. nat_eq v p.1) ps))) v) v
            by_test true e rest = get_there vars p.0 int h.0.global ∙ ap Some (h.0.one_sort ∙ ap (λ u. slice_index_or vars u int) (sym (eqb-true v p.1 e)))
            by_test false e rest = rest

    abbrev firsts : Incarnations
    firsts = first_incarnations g vars

    firsts_fit : (sorts : List Kind) → Prefix vars sorts → Fits sorts firsts
    firsts_fit sorts p = by_rule sorts (first_incarnation g) (length vars) refl (λ v below. get_more vars defs vars sorts p (first_incarnation g v) v (first_sort v below))

    firsts_long : length firsts ≡ length vars
    firsts_long = length-map (range_with_len 0 (length vars)) (first_incarnation g) ∙ length-range_with_len 0 (length vars)

    arriving_fits : (sorts : List Kind) → Prefix vars sorts → (lasts : List Incarnations) → AllByRecursion (Fits sorts) lasts → Fits sorts (arriving g.own firsts lasts)
    arriving_fits sorts p [] h = firsts_fit sorts p
    arriving_fits sorts p (i ∷ is) h = by_rule sorts (λ v. cond (nat_lt v g.own) (incarnation i v) v) (length firsts) firsts_long (λ v below.
        cond_both (nat_lt v g.own) (incarnation i v) v (λ n. HasSortOf vars defs sorts n v) (λ e. h.0.fits v below) (λ e. first_fits vars defs sorts p v below))

    -- where they disagree, it is a variable
    disagree_below : (sorts : List Kind) (lasts : List Incarnations) → AllByRecursion (Fits sorts) lasts → AllByRecursion (λ v. v < length vars) (disagree g.own lasts)
    disagree_below sorts [] h = tt
    disagree_below sorts (i ∷ is) h = passing (λ v. not (list_all (λ j. nat_eq (incarnation i v) (incarnation j v)) is)) (λ v. v < length vars) (range_with_len 0 g.own)
        (λ v differs. elim (cases_lt v (length vars)) [
          | inl below ↦ below
          | inr past ↦ let c : false ≡ true = ap not (sym (all_agree v past is h.1)) ∙ differs in absurd cc
        ])
      where
        all_agree : (v : ℕ) → length vars ≤ v → (js : List Incarnations) → AllByRecursion (Fits sorts) js → list_all (λ j. nat_eq (incarnation i v) (incarnation j v)) js ≡ true
        all_agree v past [] k = refl
        all_agree v past (j ∷ js) k = and_from (nat_eq (incarnation i v) (incarnation j v)) (list_all (λ j. nat_eq (incarnation i v) (incarnation j v)) js)
            (eq-eqb (incarnation i v) (incarnation j v) (h.0.beyond v past ∙ sym (k.0.beyond v past))) (all_agree v past js k.1)

    block_commands : (b : ℕ) → AllByRecursion (IsSortedCommand defs vars) (block_at g.blocks b).commands
    block_commands b = recursion_from_All (IsSortedCommand defs vars) (block_at g.blocks b).commands
        (one_of (λ k. All (IsSortedCommand defs vars) k.commands) g.blocks b (record { commands = []; next = []; head = None }) (All-from_recursion (IsSortedCommand defs vars) [] tt)
        (every_map (IsSortedBlock defs vars) (λ k. All (IsSortedCommand defs vars) k.commands) (λ k s. s.commands) g.blocks (recursion_from_All (IsSortedBlock defs vars) g.blocks may.sorted)))

    -- a block after others
    block_sound : (sorts : List Kind) → Prefix vars sorts → (before : List Done) → AllByRecursion (SoundDone sorts) before → (b : ℕ)
        → let r = do_block g firsts sorts before b in Prefix sorts r.0.sorts × SoundDone r.0.sorts r.1
    block_sound sorts p before h b =
        let lasts = map (λ q. (slice_index_or before q nothing_done).last) (predecessors g.blocks b) in
        let fits : AllByRecursion (Fits sorts) lasts = to_mapped (Fits sorts) (λ q. (slice_index_or before q nothing_done).last) (predecessors g.blocks b)
        (λ q. (one_of (SoundDone sorts) before q nothing_done (nothing_sound sorts p) h).last) in
        let start : Made = record { sorts = sorts; present = arriving g.own firsts lasts; commands = [] } in
        let vs = disagree g.own lasts in
        let below = disagree_below sorts lasts fits in
        let begun : SoundMade vars defs start = record { first = p; present = arriving_fits sorts p lasts fits; formulas = tt } in
        let joined = sound_havocked vars defs start begun vs below in
        let cs = (block_at g.blocks b).commands in
        let made = sound_all vars defs (havocked start vs) joined cs (block_commands b) in
        let more : Prefix (havocked start vs).sorts (perform_all (havocked start vs) cs).sorts = (grows_all (havocked start vs) cs).sorts in (
          prefix_next sorts (havocked start vs).sorts (perform_all (havocked start vs) cs).sorts (grows_havocked start vs).sorts more,
          record {
            joined = every_map (IsNewPair vars defs (havocked start vs).sorts) (IsNewPair vars defs (perform_all (havocked start vs) cs).sorts)
                (λ q r. (r.0, get_more vars defs (havocked start vs).sorts (perform_all (havocked start vs) cs).sorts more q.1 q.0 r.1)) (new_at_join start vs) (joined_fit vars defs start begun vs below);
            formulas = made.formulas;
            last = made.present;
          },
        )

    pub blocks_sound : (bs : List ℕ) (sorts : List Kind) → Prefix vars sorts → (before : List Done) → AllByRecursion (SoundDone sorts) before
        → let r = do_blocks g firsts sorts before bs in Prefix vars r.0 × AllByRecursion (SoundDone r.0) r.1
    blocks_sound [] sorts p before h = (p, h)
    blocks_sound (b ∷ bs) sorts p before h =
        let r = do_block g firsts sorts before b in
        let s = block_sound sorts p before h b in
        blocks_sound bs r.0.sorts (prefix_next vars sorts r.0.sorts p s.0) (before ++ r.1 ∷ [])
        (every_append (SoundDone r.0.sorts) before (r.1 ∷ []) (every_map (SoundDone sorts) (SoundDone r.0.sorts) (done_more sorts r.0.sorts s.0) before h) (s.1, tt))

    abbrev all_done : List Kind × List Done
    all_done = do_blocks g firsts vars [] (numbers g.blocks)

    equations_sorted : (d join : Done) → SoundDone all_done.0 d → SoundDone all_done.0 join → AllByRecursion (HasFormula vars defs all_done.0) (equations_for d join)
    equations_sorted d join h k = each_mapped (HasFormula vars defs all_done.0) (IsNewPair vars defs all_done.0) (λ q. Assume (equal (free q.1) (free (incarnation d.last q.0))))
        (λ q r. equal_sorted vars defs all_done.0 q.1 (free (incarnation d.last q.0)) (slice_index_or vars q.0 int) r.1 (h.last.fits q.0 r.0)) join.joined k.joined

    pub passive_is_sorted : FormulasAreSorted defs (passify g vars)
    passive_is_sorted =
        let s = blocks_sound (numbers g.blocks) vars (prefix_itself vars) [] tt in
        let none = nothing_sound all_done.0 s.0 in
        All-from_recursion (λ k. All (HasFormula vars defs all_done.0) k.commands) (passify g vars).blocks (to_mapped (λ k. All (HasFormula vars defs all_done.0) k.commands) (passive_block g all_done.1) (numbers g.blocks) (λ b.
        let d = slice_index_or all_done.1 b nothing_done in
        let sound = one_of (SoundDone all_done.0) all_done.1 b nothing_done none s.1 in
        All-from_recursion (HasFormula vars defs all_done.0) (passive_block g all_done.1 b).commands
        (every_append (HasFormula vars defs all_done.0) d.commands (flat_map (λ c. equations_for d (slice_index_or all_done.1 c nothing_done)) (block_at g.blocks b).next) sound.formulas
        (to_flat (HasFormula vars defs all_done.0) (λ c. equations_for d (slice_index_or all_done.1 c nothing_done)) (block_at g.blocks b).next (λ c.
        equations_sorted d (slice_index_or all_done.1 c nothing_done) sound (one_of (SoundDone all_done.0) all_done.1 c nothing_done none s.1))))))
