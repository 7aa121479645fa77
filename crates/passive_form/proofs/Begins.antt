-- At a block's beginning the present incarnations have the values of the state, and each new one is its variable's.
use Rattle.std.specs.Prelude.{◌≡◌, refl, ℕ, ◌<◌, ◌≤◌, ◌⊎◌, nat_eq, Bool, true, false, cond, List, [], ◌∷◌, ◌++◌, map, length, slice_index_or, Contains, All, Some, find, option_map, unwrap_or}
use Rattle.std.specs.List.{AllByRecursion, list_any}
use Rattle.std.proofs.Common.{arith, ap, ◌∙◌, sym, subst, eqb-true}
use Rattle.std.proofs.lemmas.List.Elements.{recursion_from_All}
use Rattle.std.proofs.lemmas.List.FromFn.{get_or-map-range_with_len}
use mathlib.Core.Logic.{inl, inr}
use Rattle.logic_core.specs.Tree.{Kind}
use Rattle.logic_core.specs.Def.{Def}
use Rattle.logic_core.specs.Value.{Value, are_of, at}
use Rattle.flow_core.specs.State.{State, AllHold}
use Rattle.flow_core.specs.Graph.{Graph, block_at, Edge}
use Rattle.flow_core.specs.Run.{IsUntouched}
use Rattle.passive_form.specs.Passive.{formulas}
use Rattle.passive_form.specs.declared.made.Made.{Made}
use Rattle.passive_form.specs.declared.done.Done.{Done}
use Rattle.passive_form.specs.Incarnations.{incarnation, nothing_done, numbers, predecessors, disagree, arriving, first_incarnation, new_at_join}
use Rattle.passive_form.specs.Kept.{MayBePassified}
use Rattle.passive_form.proofs.Lists.{Prefix, prefix_next, prefix_length, contains_first, contains_later, contains_none, contains_map, from_map, filter_has, of_filter, there_or_not, range_has, any_has, of_any}
use Rattle.passive_form.proofs.Values.{at_kept, are_length, update_itself, own_values_fit}
use Rattle.passive_form.proofs.Present.{Present, present_less, havocked_present}
use Rattle.passive_form.proofs.Commands.{Covered, Fits, Going, same_formulas}
use Rattle.passive_form.proofs.Meeting.{disagree_own, disagree_there, arriving_wide, arrives_as, IsJoined, joined_says}
use Rattle.passive_form.proofs.DoneBlocks.{first_ones, first_wide, lasts_of, start_of, begun, Before}

pub each_from : {A : Type 0} (P : A → Type 0) (xs : List A) → ((x : A) → Contains xs x → P x) → AllByRecursion P xs
each_from P [] f = tt
each_from P (x ∷ xs) f = (f x (contains_first x xs x refl), each_from P xs (λ y c. f y (contains_later x xs y c)))

-- the first incarnation among these pairs
abbrev first_of : List (ℕ × ℕ) → ℕ → ℕ
first_of olds v = unwrap_or (option_map (λ p. p.0) (find (λ p. nat_eq v p.1) olds)) v

first_says : (vars : List Kind) (σ : State) (olds : List (ℕ × ℕ)) (v : ℕ) → v < length vars → AllByRecursion (λ p. (p.0 < length vars) × (at σ p.1 ≡ at σ p.0)) olds → (first_of olds v < length vars) × (at σ (first_of olds v) ≡ at σ v)
first_says vars σ [] v l h = (l, refl)
first_says vars σ (p ∷ ps) v l h = at_test (nat_eq v p.1) refl (first_says vars σ ps v l h.1)
  where
    Said : ℕ → Type 0
    Said w = (w < length vars) × (at σ w ≡ at σ v)

    at_test : (b : Bool) → nat_eq v p.1 ≡ b → (first_of ps v < length vars) × (at σ (first_of ps v) ≡ at σ v)
        → (unwrap_or (option_map (λ (p : ℕ × ℕ). p.0) (cond b (Some p) (find (λ (p : ℕ × ℕ). nat_eq v p.1) ps))) v < length vars) × (at σ (unwrap_or (option_map (λ (p : ℕ × ℕ). p.0) (cond b (Some p) (find (λ (p : ℕ × ℕ). nat_eq v p.1) ps))) v) ≡ at σ v)
    at_test true e r = (h.0.0, sym h.0.1 ∙ ap (at σ) (sym (eqb-true v p.1 e)))
    at_test false e r = r

module _ (defs : List Def) (vars : List Kind) (g : Graph) (may : MayBePassified defs vars g) (σ₀ : State) (are₀ : are_of vars σ₀ ≡ true) (untouched : All (IsUntouched g) defs) (olds : All (λ p. at σ₀ p.1 ≡ at σ₀ p.0) g.olds) where
  pub first_value : (v : ℕ) → v < length vars → (first_incarnation g v < length vars) × (at σ₀ (first_incarnation g v) ≡ at σ₀ v)
  first_value v l = first_says vars σ₀ g.olds v l (pairs g.olds (λ k d h. ((may.olds k d h).global, olds k d h)))
    where
      pairs : (ps : List (ℕ × ℕ)) → All (λ p. (p.0 < length vars) × (at σ₀ p.1 ≡ at σ₀ p.0)) ps → AllByRecursion (λ p. (p.0 < length vars) × (at σ₀ p.1 ≡ at σ₀ p.0)) ps
      pairs ps h = recursion_from_All (λ p. (p.0 < length vars) × (at σ₀ p.1 ≡ at σ₀ p.0)) ps h

  -- a block before c from which the run comes, with what it leaves
  pub record FromBlock (c : ℕ) (σ : State) (before : List Done) (vals : List Value) : Type 0 where
    pub from : ℕ
    pub edge : Edge g.blocks from c
    pub done : from < length before
    pub says : (v : ℕ) → v < g.own → v < length vars → (incarnation (slice_index_or before from nothing_done).last v < length vals) × (at vals (incarnation (slice_index_or before from nothing_done).last v) ≡ at σ v)

  abbrev pub Arrives : ℕ → State → List Done → List Value → Type 0
  Arrives c σ before vals = ((c ≡ 0) × (σ ≡ σ₀)) ⊎ FromBlock c σ before vals

  pub before_edge : (c p : ℕ) → Contains (predecessors g.blocks c) p → Edge g.blocks p c
  before_edge c p m = of_any (block_at g.blocks p).next c (of_filter (λ p. list_any (λ d. nat_eq d c) (block_at g.blocks p).next) (numbers g.blocks) p m).1

  edge_before : (c p : ℕ) → p < length g.blocks → Edge g.blocks p c → Contains (predecessors g.blocks c) p
  edge_before c p h e = filter_has (λ p. list_any (λ d. nat_eq d c) (block_at g.blocks p).next) (numbers g.blocks) p (range_has (length g.blocks) p h) (any_has (block_at g.blocks p).next c e)

  -- none before the first block
  nothing_before : (ps : List ℕ) → ((p : ℕ) → Contains ps p → ⊥) → ps ≡ []
  nothing_before [] f = refl
  nothing_before (p ∷ ps) f = absurd (f p (contains_first p ps p refl))

  module _ (c : ℕ) (here : c < length g.blocks) (sorts : List Kind) (dones : List Done) (b : Before g vars c sorts dones) (vals : List Value) (are : are_of sorts vals ≡ true) (begins : Prefix σ₀ vals) (σ : State) (fits : Fits defs vars g may σ₀ are₀ untouched σ) where
    abbrev meeting : List ℕ
    meeting = disagree g.own (lasts_of g vars dones c)

    meeting_there : (v : ℕ) → Contains meeting v → v < length vars
    meeting_there v m = disagree_there g.own (length vars) (lasts_of g vars dones c)
        (λ j k. let r = from_map (λ p. (slice_index_or dones p nothing_done).last) (predecessors g.blocks c) j k in subst (λ l. length l ≡ length vars) r.2 (b.wide r.0 (may.rising r.0 c (before_edge c r.0 r.1)))) v m

    long : length sorts ≡ length vals
    long = are_length sorts vals are

    arrival_says : Arrives c σ dones vals → (v : ℕ) → v < length vars → v < g.own → ¬ Contains meeting v
        → (incarnation (arriving g.own (first_ones g vars) (lasts_of g vars dones c)) v < length sorts) × (at vals (incarnation (arriving g.own (first_ones g vars) (lasts_of g vars dones c)) v) ≡ at σ v)
    arrival_says (inl first) v l h n =
        let none : predecessors g.blocks c ≡ [] = nothing_before (predecessors g.blocks c) (λ p m. let low : p < c = may.rising p c (before_edge c p m) in let zero : c ≡ 0 = first.0 in absurd (omega arith)) in
        let now : arriving g.own (first_ones g vars) (lasts_of g vars dones c) ≡ first_ones g vars = ap (λ ps. arriving g.own (first_ones g vars) (map (λ p. (slice_index_or dones p nothing_done).last) ps)) none in
        let own : incarnation (first_ones g vars) v ≡ first_incarnation g v = get_or-map-range_with_len (first_incarnation g) 0 (length vars) v v v l (omega arith) in
        let e : first_incarnation g v ≡ incarnation (arriving g.own (first_ones g vars) (lasts_of g vars dones c)) v = sym (ap (λ i. incarnation i v) now ∙ own) in
        let r = first_value v l in
        let low : first_incarnation g v < length σ₀ = subst (λ n. first_incarnation g v < n) (are_length vars σ₀ are₀) r.0 in
        let short : first_incarnation g v < length sorts = let p : length vars ≤ length sorts = prefix_length vars sorts b.first in let q : first_incarnation g v < length vars = r.0 in omega arith in
        (subst (λ n. n < length sorts) e short, ap (at vals) (sym e) ∙ at_kept σ₀ vals (first_incarnation g v) begins low ∙ r.1 ∙ ap (λ τ. at τ v) (sym first.1))
    arrival_says (inr f) v l h n =
        let low : f.from < c = may.rising f.from c f.edge in
        let m : Contains (lasts_of g vars dones c) (slice_index_or dones f.from nothing_done).last = contains_map (λ p. (slice_index_or dones p nothing_done).last) (predecessors g.blocks c) f.from (edge_before c f.from (omega arith) f.edge) in
        let e : incarnation (arriving g.own (first_ones g vars) (lasts_of g vars dones c)) v ≡ incarnation (slice_index_or dones f.from nothing_done).last v = arrives_as g.own (first_ones g vars) (lasts_of g vars dones c) (slice_index_or dones f.from nothing_done).last v m h (subst (λ n. v < n) (sym (first_wide g vars)) l) n in
        let r = f.says v h l in
        (subst (λ n. n < length sorts) (sym e) (subst (λ n. incarnation (slice_index_or dones f.from nothing_done).last v < n) (sym long) r.0), ap (at vals) e ∙ r.1)

    abbrev pub values_begun : List Value
    values_begun = vals ++ map (at σ) meeting

    pub block_begun : Arrives c σ dones vals → Going defs vars g may σ₀ are₀ untouched [] (begun g vars sorts dones c) values_begun σ
    block_begun a =
        let Kept : ℕ → Type 0 = λ v. (v < g.own) × (¬ Contains meeting v) in
        let start : Made = start_of g vars sorts dones c in
        let present : Present vars Kept start vals σ = record { are = are; first = b.first; wide = arriving_wide g.own (first_ones g vars) (lasts_of g vars dones c) ∙ first_wide g vars; says = λ v l k. arrival_says a v l k.0 k.1 } in
        let new = havocked_present vars Kept meeting (map (at σ) meeting) start vals σ (each_from (λ v. v < length vars) meeting meeting_there) (own_values_fit vars meeting σ fits.are meeting_there) fits.are present in
        let same = subst (λ τ. Present vars (λ v. Contains meeting v ⊎ Kept v) (begun g vars sorts dones c) values_begun τ) (update_itself vars meeting σ) new in
        record {
          present = present_less vars (λ v. Contains meeting v ⊎ Kept v) (Covered defs vars g may σ₀ are₀ untouched []) (begun g vars sorts dones c) values_begun σ
              (λ v l k. elim (there_or_not meeting v) [ inl m ↦ inl m | inr n ↦ elim k [ inl h ↦ inr (h, n) | inr z ↦ absurd (contains_none v z) ] ]) same;
          so_far = λ frees p. subst (λ cs. AllHold defs frees (formulas cs)) (sym (same_formulas start meeting)) tt;
          fits = fits;
          begins = prefix_next σ₀ vals values_begun begins (map (at σ) meeting, refl);
        }

    pub new_ones_say : (frees : State) → Prefix values_begun frees → AllByRecursion (IsJoined g.own vars frees σ) (new_at_join (start_of g vars sorts dones c) meeting)
    new_ones_say frees p = joined_says g.own vars meeting (start_of g vars sorts dones c) vals σ frees long (λ v m. (disagree_own g.own (lasts_of g vars dones c) v m, meeting_there v m)) p
