-- Whether commands set a variable, as a test; and which variables a command reads that are own and not set.
use Rattle.std.proofs.Common.{◌≡◌, refl, ℕ, ◌≤◌, ◌==◌, nat_le, Bool, true, false, not, List, [], ◌∷◌, inl, inr, get_or, subst, eq-eqb, arith}
use Rattle.std.specs.Prelude.{Contains, All}
use Rattle.std.specs.List.{list_any}
use Rattle.std.proofs.lemmas.Bool.{or_cases, or_left, or_right, eqb-true, leb-true, le-leb, and_parts, and_from, both_ways, not-true, not_from_false, false_from_ne_true}
use Rattle.std.proofs.lemmas.List.Elements.{Contains-append_left, Contains-append_right, Contains-append_cases, All-contains}
use Rattle.std.proofs.lemmas.List.Folds.{list_any_at}
use Rattle.logic_core.specs.Subterm.{has}
use Rattle.flow_core.specs.declared.command.Command.{Command}
use Rattle.flow_core.specs.declared.block.Invariant.{Invariant}
use Rattle.flow_core.specs.Graph.{set_by, set_by_each}
use Rattle.flow_core.specs.Reading.{Mentions, read_by, Reads, is_set, is_unset}
use Rattle.flow_core.proofs.Lists.{passing, any_passes}
use Rattle.flow_core.proofs.Unset.{unset, found, mentioned}

contained : (xs : List ℕ) (v : ℕ) → list_any (λ x. x == v) xs ≡ true → Contains xs v
contained xs v h = let e = passing (λ x. x == v) xs h in subst (λ y. Contains xs y) (eqb-true e.0 v e.2) e.1

pub set_contained : (cs : List Command) (v : ℕ) → is_set cs v ≡ true → Contains (set_by_each cs) v
set_contained [] v h = absurd (cc)
set_contained (c ∷ cs) v h =
    elim (or_cases (list_any (λ x. x == v) (set_by c)) (is_set cs v) h) [
      | inl l ↦ Contains-append_left (set_by c) (set_by_each cs) v (contained (set_by c) v l)
      | inr r ↦ Contains-append_right (set_by c) (set_by_each cs) v (set_contained cs v r)
    ]

pub contained_set : (cs : List Command) (v : ℕ) → Contains (set_by_each cs) v → is_set cs v ≡ true
contained_set [] v m = absurd (omega (arith, m.1))
contained_set (c ∷ cs) v m =
    elim (Contains-append_cases (set_by c) (set_by_each cs) v m) [
      | inl l ↦ or_left (list_any (λ x. x == v) (set_by c)) (is_set cs v) (any_passes (λ x. x == v) (set_by c) v l (eq-eqb v v refl))
      | inr r ↦ or_right (list_any (λ x. x == v) (set_by c)) (is_set cs v) (contained_set cs v r)
    ]

module _ (own : ℕ) (cs : List Command) where
  -- a variable that is own and not set
  pub unset_from : (v : ℕ) → own ≤ v → is_set cs v ≡ false → unset own cs v ≡ true
  unset_from v le free = and_from (nat_le own v) (not (is_set cs v)) (le-leb own v le) (not_from_false (is_set cs v) free)

  pub unset_own : (v : ℕ) → unset own cs v ≡ true → own ≤ v
  unset_own v h = leb-true own v (and_parts (nat_le own v) (not (is_set cs v)) h).0

  pub unset_free : (v : ℕ) → unset own cs v ≡ true → ¬ Contains (set_by_each cs) v
  unset_free v h m = both_ways (is_set cs v) (not-true (is_set cs v) (and_parts (nat_le own v) (not (is_set cs v)) h).1) (contained_set cs v m)

  -- a command reads one
  pub reads_one : (c : Command) → list_any (has (is_unset own cs)) (read_by c) ≡ true → (v : ℕ) × (own ≤ v) × (¬ Contains (set_by_each cs) v) × Reads c v
  reads_one c h =
      let e = passing (has (is_unset own cs)) (read_by c) h in
      let f = found own cs e.0 e.2 in
      (f.0, unset_own f.0 f.1, unset_free f.0 f.1, (e.1.0, e.0, e.1.1, e.1.2, f.2))

  pub one_read : (c : Command) (v : ℕ) → own ≤ v → is_set cs v ≡ false → Reads c v → list_any (has (is_unset own cs)) (read_by c) ≡ true
  one_read c v le free r = any_passes (has (is_unset own cs)) (read_by c) r.1 (r.0, r.2, r.3) (mentioned own cs v (unset_from v le free) r.1 r.4)

-- no invariant mentions a variable from number own on
module _ (own : ℕ) (is : List Invariant) where
  abbrev some_mentions : Bool
  some_mentions = list_any (λ i. has (is_unset own []) i.formula) is

  abbrev Avoided : Type 0
  Avoided = All (λ i. (v : ℕ) → own ≤ v → ¬ Mentions i.formula v) is

  pub avoided : some_mentions ≡ false → Avoided
  avoided fails k d there v le m = both_ways some_mentions fails (list_any_at (λ i. has (is_unset own []) i.formula) is k d there (mentioned own [] v (unset_from own [] v le refl) (get_or is k d).formula m))

  pub none_mentions : Avoided → some_mentions ≡ false
  none_mentions avoids = false_from_ne_true some_mentions (λ h.
      let e = passing (λ i. has (is_unset own []) i.formula) is h in
      let f = found own [] e.0.formula e.2 in
      All-contains (λ i. (v : ℕ) → own ≤ v → ¬ Mentions i.formula v) is e.0 avoids e.1 f.0 (unset_own own [] f.0 f.1) f.2)
