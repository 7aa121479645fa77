-- While a block is made passive, each variable's incarnation has its sort, and the formulas that are made are well sorted.
use Rattle.std.specs.Prelude.{◌≡◌, refl, ℕ, zero, suc, ◌<◌, ◌≤◌, true, false, is_some, List, [], ◌∷◌, map, length, slice_get, slice_index_or, Option, Some}
use Rattle.std.specs.List.{AllByRecursion}
use Rattle.std.proofs.Common.{arith, ap, ◌∙◌}
use Rattle.std.proofs.lemmas.Bool.{cases_eq, cases_lt}
use Rattle.std.proofs.lemmas.List.{get_or_past, get_or-set_same, get_or-set_other, length-set}
use Rattle.std.proofs.lemmas.List.Elements.{recursion_from_All}
use mathlib.Core.Path.{subst, sym}
use mathlib.Core.Logic.{inl, inr}
use Rattle.logic_core.specs.Tree.{Kind, int, boolean, Tree, free, equal}
use Rattle.logic_core.specs.Def.{Def}
use Rattle.logic_core.specs.Wide.{◌>>=◌, when}
use Rattle.logic_core.specs.Sorts.{is, sort_of}
use Rattle.logic_core.specs.WellSorted.{IsFormula}
use Rattle.logic_core.specs.Renamed.{both_renamed}
use Rattle.logic_core.proofs.ThereIs.{There}
use Rattle.logic_core.proofs.EachOf.{every_append, every_map}
use Rattle.logic_core.proofs.SameTerm.{self_sort}
use Rattle.logic_laws.proofs.SortFrame.{Within, within_more, within_itself, within_none, sort_over}
use Rattle.logic_laws.proofs.SortedNumbers.{HasVariable, HasDefinition, mentions_there}
use Rattle.logic_laws.proofs.RenamedSorts.{same_sort}
use Rattle.flow_core.specs.declared.command.Command.{Command}
use Rattle.flow_core.specs.declared.command.Command.TheVariants.{Assert, Assume, Assign, Havoc}
use Rattle.passive_form.specs.Passive.{formula_in}
use Rattle.passive_form.specs.Sorted.{IsSortedPair, IsSortedCommand}
use Rattle.passive_form.specs.declared.made.Made.{Made}
use Rattle.passive_form.specs.Incarnations.{Incarnations, incarnation, read, anew, also, assigned, havocked, perform, perform_all, new_at_join}
use Rattle.passive_form.proofs.Lists.{Prefix, prefix_next, prefix_get, get_after}
use Rattle.passive_form.proofs.Growing.{grows_havocked}

pub get_there : {A : Type 0} (xs : List A) (n : ℕ) (d : A) → n < length xs → slice_get xs n ≡ Some (slice_index_or xs n d)
get_there [] n d h = absurd (omega (h, arith))
get_there (x ∷ xs) zero d h = refl
get_there (x ∷ xs) (suc n) d h = get_there xs n d (omega (h, arith))

within_prefix : {A : Type 0} (xs ys : List A) → Prefix xs ys → Within xs ys
within_prefix xs ys p = subst (Within xs) p.1 (within_more xs p.0)

below_length : {A : Type 0} (xs : List A) (n : ℕ) → There (slice_get xs n) → n < length xs
below_length [] n h = let c : false ≡ true = h in absurd cc
below_length (x ∷ xs) zero h = omega arith
below_length (x ∷ xs) (suc n) h = let below = below_length xs n h in omega (below, arith)

module _ (vars : List Kind) (defs : List Def) where
  -- the sort of a variable, over these sorts
  abbrev pub HasSortOf : List Kind → ℕ → ℕ → Type 0
  HasSortOf sorts n v = slice_get sorts n ≡ Some (slice_index_or vars v int)

  -- each variable's incarnation has its sort, and what is no variable is its own incarnation
  pub record FitsNow (sorts : List Kind) (now : Incarnations) : Type 0 where
    pub fits : (v : ℕ) → v < length vars → HasSortOf sorts (incarnation now v) v
    pub beyond : (v : ℕ) → length vars ≤ v → incarnation now v ≡ v

  abbrev pub HasFormula : List Kind → Command → Type 0
  HasFormula sorts c = IsFormula sorts defs (formula_in c)

  pub record SoundMade (s : Made) : Type 0 where
    pub first : Prefix vars s.sorts
    pub present : FitsNow s.sorts s.present
    pub formulas : AllByRecursion (HasFormula s.sorts) s.commands

  -- over more sorts
  pub get_more : (sorts sorts' : List Kind) → Prefix sorts sorts' → (n v : ℕ) → HasSortOf sorts n v → HasSortOf sorts' n v
  get_more sorts sorts' p n v e = within_prefix sorts sorts' p n (slice_index_or vars v int) e

  pub sort_more : (sorts sorts' : List Kind) → Prefix sorts sorts' → (t : Tree) (k : Kind) → sort_of sorts defs [] t ≡ Some k → sort_of sorts' defs [] t ≡ Some k
  sort_more sorts sorts' p t k e = sort_over sorts defs sorts' defs (within_prefix sorts sorts' p) (within_itself defs) t [] [] (within_none []) k e

  pub formulas_more : (sorts sorts' : List Kind) → Prefix sorts sorts' → (cs : List Command) → AllByRecursion (HasFormula sorts) cs → AllByRecursion (HasFormula sorts') cs
  formulas_more sorts sorts' p cs h = every_map (HasFormula sorts) (HasFormula sorts') (λ c e. sort_more sorts sorts' p (formula_in c) boolean e) cs h

  pub fits_more : (sorts sorts' : List Kind) → Prefix sorts sorts' → (now : Incarnations) → FitsNow sorts now → FitsNow sorts' now
  fits_more sorts sorts' p now f = record { fits = λ v below. get_more sorts sorts' p (incarnation now v) v (f.fits v below); beyond = f.beyond }

  -- a variable itself has its sort
  pub first_fits : (sorts : List Kind) → Prefix vars sorts → (v : ℕ) → v < length vars → HasSortOf sorts v v
  first_fits sorts p v below = get_more vars sorts p v v (get_there vars v int below)

  -- a term that is read has its sort
  pub read_sort : (sorts : List Kind) (now : Incarnations) → FitsNow sorts now → (t : Tree) (k : Kind) → sort_of vars defs [] t ≡ Some k → sort_of sorts defs [] (read now t) ≡ Some k
  read_sort sorts now f t k e =
      let same : sort_of sorts defs [] (both_renamed (λ n. n) (incarnation now) t) ≡ sort_of vars defs [] t
      = same_sort (λ n. n) (incarnation now) vars sorts defs defs (HasVariable vars defs) (HasDefinition vars defs)
      (λ v there. let below = below_length vars v there in f.fits v below ∙ sym (get_there vars v int below)) (λ f there g. refl) t [] (mentions_there vars defs t [] (ap is_some e)) in
      same ∙ e

  -- the new incarnation has the variable's sort
  new_fits : (s : Made) → SoundMade s → (x : ℕ) → x < length vars → HasSortOf (anew s x).sorts (length s.sorts) x
  new_fits s h x below = get_after s.sorts (slice_index_or s.sorts x int) [] ∙ ap Some (prefix_get vars s.sorts x int h.first below)

  pub sound_anew : (s : Made) → SoundMade s → (x : ℕ) → x < length vars → SoundMade (anew s x)
  sound_anew s h x below =
      let more : Prefix s.sorts (anew s x).sorts = (slice_index_or s.sorts x int ∷ [], refl) in
      let first : Prefix vars (anew s x).sorts = prefix_next vars s.sorts (anew s x).sorts h.first more in
      record {
        first = first;
        present = record {
          fits = λ v there. elim (cases_eq v x) [
            | inl same ↦ subst (λ u. HasSortOf (anew s x).sorts (incarnation (anew s x).present u) u) (sym same) (elim (cases_lt x (length s.present)) [
              | inl inside ↦ subst (λ n. HasSortOf (anew s x).sorts n x) (sym (get_or-set_same s.present x (length s.sorts) x inside)) (new_fits s h x below)
              | inr outside ↦ subst (λ n. HasSortOf (anew s x).sorts n x) (sym (get_or_past (anew s x).present x x (omega (outside, length-set s.present x (length s.sorts), arith)))) (first_fits (anew s x).sorts first x below)
            ])
            | inr apart ↦ subst (λ n. HasSortOf (anew s x).sorts n v) (sym (get_or-set_other s.present x v (length s.sorts) v apart)) (get_more s.sorts (anew s x).sorts more (incarnation s.present v) v (h.present.fits v there))
          ];
          beyond = λ v past. get_or-set_other s.present x v (length s.sorts) v (λ same. omega (same, below, past, arith)) ∙ h.present.beyond v past;
        };
        formulas = formulas_more s.sorts (anew s x).sorts more s.commands h.formulas;
      }

  pub sound_also : (s : Made) → SoundMade s → (c : Command) → HasFormula s.sorts c → SoundMade (also s c)
  sound_also s h c e = record { first = h.first; present = h.present; formulas = every_append (HasFormula s.sorts) s.commands (c ∷ []) h.formulas (e, tt) }

  pub equal_sorted : (sorts : List Kind) (n : ℕ) (t : Tree) (k : Kind) → slice_get sorts n ≡ Some k → sort_of sorts defs [] t ≡ Some k → IsFormula sorts defs (equal (free n) t)
  equal_sorted sorts n t k e h =
      ap (λ (o : Option Kind). o >>= λ s. when (is s (sort_of sorts defs [] t)) (Some boolean)) e
      ∙ ap (λ (o : Option Kind). when (is k o) (Some boolean)) h ∙ ap (λ b. when b (Some boolean)) (self_sort k)

  abbrev IsReadPair : List Kind → ℕ × Tree → Type 0
  IsReadPair sorts p = (p.0 < length vars) × (sort_of sorts defs [] p.1 ≡ Some (slice_index_or vars p.0 int))

  sound_assigned : (s : Made) → SoundMade s → (ps : List (ℕ × Tree)) → AllByRecursion (IsReadPair s.sorts) ps → SoundMade (assigned s ps)
  sound_assigned s h [] e = h
  sound_assigned s h (p ∷ ps) e =
      let more : Prefix s.sorts (anew s p.0).sorts = (slice_index_or s.sorts p.0 int ∷ [], refl) in
      let c : Command = Assume (equal (free (length s.sorts)) p.1) in
      let k = slice_index_or vars p.0 int in
      let made = sound_also (anew s p.0) (sound_anew s h p.0 e.0.0) c (equal_sorted (anew s p.0).sorts (length s.sorts) p.1 k (new_fits s h p.0 e.0.0) (sort_more s.sorts (anew s p.0).sorts more p.1 k e.0.1)) in
      sound_assigned (also (anew s p.0) c) made ps
      (every_map (IsReadPair s.sorts) (IsReadPair (anew s p.0).sorts) (λ q r. (r.0, sort_more s.sorts (anew s p.0).sorts more q.1 (slice_index_or vars q.0 int) r.1)) ps e.1)

  pub sound_havocked : (s : Made) → SoundMade s → (xs : List ℕ) → AllByRecursion (λ x. x < length vars) xs → SoundMade (havocked s xs)
  sound_havocked s h [] e = h
  sound_havocked s h (x ∷ xs) e = sound_havocked (anew s x) (sound_anew s h x e.0) xs e.1

  read_pairs : (s : Made) → SoundMade s → (ps : List (ℕ × Tree)) → AllByRecursion (IsSortedPair defs vars) ps → AllByRecursion (IsReadPair s.sorts) (map (λ p. (p.0, read s.present p.1)) ps)
  read_pairs s h [] e = tt
  read_pairs s h (p ∷ ps) e = ((e.0.0, read_sort s.sorts s.present h.present p.1 (slice_index_or vars p.0 int) e.0.1), read_pairs s h ps e.1)

  pub sound_perform : (s : Made) → SoundMade s → (c : Command) → IsSortedCommand defs vars c → SoundMade (perform s c)
  sound_perform s h (Assert m E) e = sound_also s h (Assert m (read s.present E)) (read_sort s.sorts s.present h.present E boolean e)
  sound_perform s h (Assume E) e = sound_also s h (Assume (read s.present E)) (read_sort s.sorts s.present h.present E boolean e)
  sound_perform s h (Assign ps) e = sound_assigned s h (map (λ p. (p.0, read s.present p.1)) ps) (read_pairs s h ps (recursion_from_All (IsSortedPair defs vars) ps e))
  sound_perform s h (Havoc xs) e = sound_havocked s h xs (recursion_from_All (λ x. x < length vars) xs e)

  pub sound_all : (s : Made) → SoundMade s → (cs : List Command) → AllByRecursion (IsSortedCommand defs vars) cs → SoundMade (perform_all s cs)
  sound_all s h [] e = h
  sound_all s h (c ∷ cs) e = sound_all (perform s c) (sound_perform s h c e.0) cs e.1

  -- a variable that gets a new incarnation at a join, with it
  abbrev pub IsNewPair : List Kind → ℕ × ℕ → Type 0
  IsNewPair sorts q = (q.0 < length vars) × HasSortOf sorts q.1 q.0

  pub joined_fit : (s : Made) → SoundMade s → (xs : List ℕ) → AllByRecursion (λ x. x < length vars) xs → AllByRecursion (IsNewPair (havocked s xs).sorts) (new_at_join s xs)
  joined_fit s h [] e = tt
  joined_fit s h (x ∷ xs) e =
      ((e.0, get_more (anew s x).sorts (havocked (anew s x) xs).sorts (grows_havocked (anew s x) xs).sorts (length s.sorts) x (new_fits s h x e.0)), joined_fit (anew s x) (sound_anew s h x e.0) xs e.1)
