-- The present incarnations have the values of the state, after new ones too, and the formulas that were made hold.
use Rattle.std.specs.Prelude.{◌≡◌, refl, ℕ, ◌<◌, ◌≢◌, ◌⊎◌, true, false, List, [], ◌∷◌, ◌++◌, map, set, length, slice_index_or, IsTrue, Contains}
use Rattle.std.specs.List.{AllByRecursion}
use Rattle.std.proofs.Common.{arith, ap, ◌∙◌, sym, subst}
use Rattle.std.proofs.lemmas.Bool.{cases_eq}
use Rattle.std.proofs.lemmas.List.{append_assoc, append-nil, map-append, length-append, length-set, get_or-set_same, get_or-set_other}
use Rattle.logic_core.proofs.Booleans.{both_true, all_true as and_true}
use mathlib.Core.Logic.{inl, inr}
use Rattle.logic_core.specs.Tree.{Kind, int, Tree, free, equal}
use Rattle.logic_core.specs.Def.{Def}
use Rattle.logic_core.specs.Value.{Value, flag, holds, same, is_of, are_of, at}
use Rattle.logic_core.proofs.EachOf.{every_append}
use Rattle.flow_core.specs.declared.command.Command.{Command}
use Rattle.flow_core.specs.declared.command.Command.TheVariants.{Assume}
use Rattle.flow_core.specs.State.{State, HoldsIn, AllHold, EvaluateTo, FitSorts, sorts_at, update}
use Rattle.passive_form.specs.Passive.{formula_in, formulas}
use Rattle.passive_form.specs.declared.made.Made.{Made}
use Rattle.passive_form.specs.Incarnations.{incarnation, anew, also, assigned, havocked}
use Rattle.passive_form.proofs.Lists.{Prefix, prefix_next, prefix_get, contains_cases}
use Rattle.passive_form.proofs.Monotone.{weaker, same_itself}
use Rattle.passive_form.proofs.Values.{at_kept, at_next, at_set_same, at_set_other, are_length, are_append, are_set}

module _ (vars : List Kind) where
  -- of the variables with C
  pub record Present (C : ℕ → Type 0) (s : Made) (vals : List Value) (σ : State) : Type 0 where
    pub are : are_of s.sorts vals ≡ true
    pub first : Prefix vars s.sorts
    pub wide : length s.present ≡ length vars
    pub says : (v : ℕ) → v < length vars → C v → (incarnation s.present v < length s.sorts) × (at vals (incarnation s.present v) ≡ at σ v)

  pub present_less : (C D : ℕ → Type 0) (s : Made) (vals : List Value) (σ : State) → ((v : ℕ) → v < length vars → D v → C v) → Present C s vals σ → Present D s vals σ
  present_less C D s vals σ f p = record { are = p.are; first = p.first; wide = p.wide; says = λ v b d. p.says v b (f v b d) }

  pub present_also : (C : ℕ → Type 0) (s : Made) (c : Command) (vals : List Value) (σ : State) → Present C s vals σ → Present C (also s c) vals σ
  present_also C s c vals σ p = record { are = p.are; first = p.first; wide = p.wide; says = p.says }

  -- a new incarnation of x with the value that x has now
  pub anew_present : (C : ℕ → Type 0) (s : Made) (vals : List Value) (σ τ : State) (x : ℕ) (w : Value) → Present C s vals σ → x < length vars → is_of (slice_index_or vars x int) w ≡ true
      → at τ x ≡ w → ((v : ℕ) → v ≢ x → at τ v ≡ at σ v) → Present (λ v. (x ≡ v) ⊎ C v) (anew s x) (vals ++ w ∷ []) τ
  anew_present C s vals σ τ x w p b i e others =
      let long : length s.sorts ≡ length vals = are_length s.sorts vals p.are in
      let sort : slice_index_or s.sorts x int ≡ slice_index_or vars x int = prefix_get vars s.sorts x int p.first b in
      let is : is_of (slice_index_or s.sorts x int) w ≡ true = ap (λ k. is_of k w) sort ∙ i in
      let more : length s.sorts < length (s.sorts ++ slice_index_or s.sorts x int ∷ []) = omega (arith, length-append s.sorts (slice_index_or s.sorts x int ∷ [])) in
      record {
        are = are_append s.sorts (slice_index_or s.sorts x int ∷ []) vals (w ∷ []) p.are (and_true (is_of (slice_index_or s.sorts x int) w) true is refl);
        first = prefix_next vars s.sorts (s.sorts ++ slice_index_or s.sorts x int ∷ []) p.first (slice_index_or s.sorts x int ∷ [], refl);
        wide = length-set s.present x (length s.sorts) ∙ p.wide;
        says = λ v l c. elim (cases_eq v x) [
          | inl q ↦
              let here : incarnation (set s.present x (length s.sorts)) v ≡ length s.sorts = ap (λ u. slice_index_or (set s.present x (length s.sorts)) u v) q ∙ get_or-set_same s.present x (length s.sorts) v (subst (λ n. x < n) (sym p.wide) b) in
              let there : at (vals ++ w ∷ []) (length s.sorts) ≡ w = ap (at (vals ++ w ∷ [])) long ∙ at_next vals w [] in
              (subst (λ n. n < length (s.sorts ++ slice_index_or s.sorts x int ∷ [])) (sym here) more, ap (at (vals ++ w ∷ [])) here ∙ there ∙ sym e ∙ ap (at τ) (sym q))
          | inr n ↦
              let old : incarnation (set s.present x (length s.sorts)) v ≡ incarnation s.present v = get_or-set_other s.present x v (length s.sorts) v n in
              let r = p.says v l (elim c [ inl q ↦ absurd (n (sym q)) | inr k ↦ k ]) in
              let low : incarnation s.present v < length vals = subst (λ m. incarnation s.present v < m) long r.0 in
              let wider : incarnation s.present v < length (s.sorts ++ slice_index_or s.sorts x int ∷ []) = let lower : incarnation s.present v < length s.sorts = r.0 in omega arith in (
                subst (λ m. m < length (s.sorts ++ slice_index_or s.sorts x int ∷ [])) (sym old) wider,
                ap (at (vals ++ w ∷ [])) old ∙ at_kept vals (vals ++ w ∷ []) (incarnation s.present v) (w ∷ [], refl) low ∙ r.1 ∙ sym (others v n),
              )
        ];
      }

  abbrev AreThere : List ℕ → Type 0
  AreThere xs = AllByRecursion (λ x. x < length vars) xs

  pub havocked_present : (C : ℕ → Type 0) (xs : List ℕ) (ws : List Value) (s : Made) (vals : List Value) (σ : State) → AreThere xs → FitSorts vars xs ws → are_of vars σ ≡ true
      → Present C s vals σ → Present (λ v. Contains xs v ⊎ C v) (havocked s xs) (vals ++ ws) (update σ xs ws)
  havocked_present C [] [] s vals σ b f h p =
      let q : Present (λ v. Contains [] v ⊎ C v) s vals σ = present_less C (λ v. Contains [] v ⊎ C v) s vals σ (λ v l d. elim d [ inl c ↦ absurd (let k : c.0 < 0 = c.1 in omega arith) | inr k ↦ k ]) p in
      subst (λ l. Present (λ v. Contains [] v ⊎ C v) s l σ) (sym (append-nil vals)) q
  havocked_present C (x ∷ xs) (w ∷ ws) s vals σ b f h p =
      let k = both_true (is_of (slice_index_or vars x int) w) (are_of (sorts_at vars xs) ws) f in
      let wide : x < length σ = subst (λ n. x < n) (are_length vars σ h) b.0 in
      let one = anew_present C s vals σ (set σ x w) x w p b.0 k.0 (at_set_same σ x w wide) (λ v n. at_set_other σ x v w n) in
      let rest = havocked_present (λ v. (x ≡ v) ⊎ C v) xs ws (anew s x) (vals ++ w ∷ []) (set σ x w) b.1 k.1 (are_set vars σ x w h k.0) one in
      let joined = subst (λ l. Present (λ v. Contains xs v ⊎ ((x ≡ v) ⊎ C v)) (havocked (anew s x) xs) l (update (set σ x w) xs ws)) (append_assoc vals (w ∷ []) ws) rest in
      present_less (λ v. Contains xs v ⊎ ((x ≡ v) ⊎ C v)) (λ v. Contains (x ∷ xs) v ⊎ C v) (havocked (anew s x) xs) (vals ++ w ∷ ws) (update (set σ x w) xs ws)
      (λ v l d. elim d [ inl c ↦ elim (contains_cases x xs v c) [ inl q ↦ inr (inl q) | inr m ↦ inl m ] | inr m ↦ inr (inr m) ]) joined
  havocked_present C [] (w ∷ ws) s vals σ b f h p = let bad : false ≡ true = f in absurd (cc)
  havocked_present C (x ∷ xs) [] s vals σ b f h p = let bad : false ≡ true = f in absurd (cc)

  module _ (defs : List Def) where
    -- all formulas so far hold in each assignment that begins with the values
    abbrev pub HoldSoFar : Made → List Value → Type 0
    HoldSoFar s vals = (frees : State) → Prefix vals frees → AllHold defs frees (formulas s.commands)

    pub so_far_more : (s : Made) (vals more : List Value) → Prefix vals more → HoldSoFar s vals → HoldSoFar s more
    so_far_more s vals more p h frees q = h frees (prefix_next vals more frees p q)

    pub so_far_also : (s : Made) (vals : List Value) (c : Command) → HoldSoFar s vals → ((frees : State) → Prefix vals frees → HoldsIn defs frees (formula_in c)) → HoldSoFar (also s c) vals
    so_far_also s vals c h one frees q =
        subst (AllHold defs frees) (sym (map-append formula_in s.commands (c ∷ []))) (every_append (HoldsIn defs frees) (formulas s.commands) (formula_in c ∷ []) (h frees q) (one frees q, tt))

    -- an equation of a place and a term whose value stands there
    equation_holds : (frees : State) (n : ℕ) (t : Tree) (w : Value) → at frees n ≡ w → EvaluateTo defs frees (t ∷ []) (w ∷ []) → HoldsIn defs frees (equal (free n) t)
    equation_holds frees n t w e h = weaker frees defs t [] (λ v. v ≡ w) (λ v. IsTrue (holds (flag (same (at frees n) v)))) (λ v q. ap (λ u. same u v) (e ∙ sym q) ∙ same_itself v) h.0

    pub assigned_present : (C : ℕ → Type 0) (ps : List (ℕ × Tree)) (ws : List Value) (s : Made) (vals : List Value) (σ : State) → AreThere (map (λ p. p.0) ps) → FitSorts vars (map (λ p. p.0) ps) ws → are_of vars σ ≡ true
        → ((frees : State) → Prefix vals frees → EvaluateTo defs frees (map (λ p. p.1) ps) ws) → HoldSoFar s vals
        → Present C s vals σ → Present (λ v. Contains (map (λ p. p.0) ps) v ⊎ C v) (assigned s ps) (vals ++ ws) (update σ (map (λ p. p.0) ps) ws) × HoldSoFar (assigned s ps) (vals ++ ws)
    assigned_present C [] [] s vals σ b f h es k p =
        let q : Present (λ v. Contains [] v ⊎ C v) s vals σ = present_less C (λ v. Contains [] v ⊎ C v) s vals σ (λ v l d. elim d [ inl c ↦ absurd (let k : c.0 < 0 = c.1 in omega arith) | inr k ↦ k ]) p in
        (subst (λ l. Present (λ v. Contains [] v ⊎ C v) s l σ) (sym (append-nil vals)) q, subst (HoldSoFar s) (sym (append-nil vals)) k)
    assigned_present C ((x, t) ∷ ps) (w ∷ ws) s vals σ b f h es k p =
        let xs : List ℕ = map (λ p. p.0) ps in
        let c : Command = Assume (equal (free (length s.sorts)) t) in
        let g = both_true (is_of (slice_index_or vars x int) w) (are_of (sorts_at vars xs) ws) f in
        let wide : x < length σ = subst (λ n. x < n) (are_length vars σ h) b.0 in
        let one = anew_present C s vals σ (set σ x w) x w p b.0 g.0 (at_set_same σ x w wide) (λ v n. at_set_other σ x v w n) in
        let place : at (vals ++ w ∷ []) (length s.sorts) ≡ w = ap (at (vals ++ w ∷ [])) (are_length s.sorts vals p.are) ∙ at_next vals w [] in
        let longer : length s.sorts < length (vals ++ w ∷ []) = omega (arith, length-append vals (w ∷ []), are_length s.sorts vals p.are) in
        let grown : Prefix vals (vals ++ w ∷ []) = (w ∷ [], refl) in
        let so : HoldSoFar (also (anew s x) c) (vals ++ w ∷ []) = so_far_also (anew s x) (vals ++ w ∷ []) c (so_far_more s vals (vals ++ w ∷ []) grown k)
        (λ frees q. equation_holds frees (length s.sorts) t w (at_kept (vals ++ w ∷ []) frees (length s.sorts) q longer ∙ place) ((es frees (prefix_next vals (vals ++ w ∷ []) frees grown q)).0, tt)) in
        let rest = assigned_present (λ v. (x ≡ v) ⊎ C v) ps ws (also (anew s x) c) (vals ++ w ∷ []) (set σ x w) b.1 g.1 (are_set vars σ x w h g.0)
        (λ frees q. (es frees (prefix_next vals (vals ++ w ∷ []) frees grown q)).1) so (present_also (λ v. (x ≡ v) ⊎ C v) (anew s x) c (vals ++ w ∷ []) (set σ x w) one) in
        let joined = subst (λ l. Present (λ v. Contains xs v ⊎ ((x ≡ v) ⊎ C v)) (assigned (also (anew s x) c) ps) l (update (set σ x w) xs ws) × HoldSoFar (assigned (also (anew s x) c) ps) l) (append_assoc vals (w ∷ []) ws) rest in (
          present_less (λ v. Contains xs v ⊎ ((x ≡ v) ⊎ C v)) (λ v. Contains (x ∷ xs) v ⊎ C v) (assigned (also (anew s x) c) ps) (vals ++ w ∷ ws) (update (set σ x w) xs ws)
              (λ v l d. elim d [ inl c ↦ elim (contains_cases x xs v c) [ inl q ↦ inr (inl q) | inr m ↦ inl m ] | inr m ↦ inr (inr m) ]) joined.0,
          joined.1,
        )
    assigned_present C [] (w ∷ ws) s vals σ b f h es k p = let bad : false ≡ true = f in absurd (cc)
    assigned_present C ((x, t) ∷ ps) [] s vals σ b f h es k p = let bad : false ≡ true = f in absurd (cc)
