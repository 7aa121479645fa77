-- What code makes of facts and branches of numbers, said over the terms.
use Rattle.std.proofs.Common.{◌≡◌, refl, sym, ap, subst, ◌∙◌, ℕ, ◌+◌, ◌<◌, List, map, length, take, drop, Result, IfOk, OnOk}
use Rattle.std.specs.List.{AllByRecursion, take-map, drop-map}
use Rattle.std.proofs.lemmas.Result.{IfOk-weaker, on_ok_weaker}
use Rattle.logic_core.specs.Tree.{Tree}
use Rattle.logic_core.specs.Tighten.{tighten}
use Rattle.term_bank.specs.Numbered.{at}
use Rattle.tableau_branch.specs.Change as change
use Rattle.numbered_terms.specs.At.{IsAt}
use Rattle.numbered_terms.specs.Stored.{AreStored}
use Rattle.numbered_branches.specs.Branches.{NumberedFact, NumberedMade, fact_at, made_at, IsFactBelow, IsMadeOver}
use Rattle.numbered_branches.specs.NumberedChange as numbered
use Rattle.numbered_branches.specs.NumberedChange.{IsSeen, IsTight}
use Rattle.numbered_branches.specs.Seen.{seen_of, tight_as}
use Rattle.numbered_branches.specs.Standing.{IsFactAt, IsMadeAt}
use Rattle.numbered_branches.proofs.Changing.{tightened_is, tightened_below, steps_below, steps_are, adds, adds_each, keeps, changes_at, all_take, all_drop}

pub are_seen : (ts : List Tree) → IsSeen ts (seen_of ts)
are_seen ts = record { is_true = λ i l. refl; size = λ i l. refl }

-- something that is known, of a thing that is equal
on : {A : Type 0} (P : A → Type 0) (a b : A) → P a → b ≡ a → P b
on P a b h e = subst P (sym e) h

module _ (ts : List Tree) (stored : AreStored ts) where
  abbrev tight_at : (i tight : ℕ) → i < length ts → IsAt ts tight (tighten (at ts i)) → IsTight ts (tight_as tight) i
  tight_at i tight l h = (l, h.0, h.1)

  pub fact_stands : {E : Type 0} (r : Result NumberedFact E) (number next i tight : ℕ) → i < length ts → IsAt ts tight (tighten (at ts i))
      → IfOk r (λ f. f ≡ (numbered.tightened (tight_as tight) number next i).fact) → IfOk r (λ f. IsFactAt ts f (change.tightened number next (at ts i)).fact)
  fact_stands r number next i tight l h g = let t = tight_at i tight l h in
      IfOk-weaker r (λ f. f ≡ (numbered.tightened (tight_as tight) number next i).fact) (λ f. IsFactAt ts f (change.tightened number next (at ts i)).fact)
      (λ f e. on (λ x. IsFactAt ts x (change.tightened number next (at ts i)).fact) (numbered.tightened (tight_as tight) number next i).fact f
      ((tightened_below ts stored (tight_as tight) number next i t).0, ap (λ (x : change.Tightened). x.fact) (tightened_is ts stored (tight_as tight) number next i t)) e) g

  pub tight_stands : {A E : Type 0} (r : Result A E) (number i tight : ℕ) (m n : NumberedMade) → i < length ts → IsAt ts tight (tighten (at ts i)) → IsMadeOver ts m
      → OnOk r (let t = numbered.tightened (tight_as tight) number m.branch.next i in n ≡ numbered.with_steps t.steps t.next m)
      → OnOk r (let t = change.tightened number m.branch.next (at ts i) in IsMadeAt ts n (change.with_steps t.steps t.next (made_at ts m)))
  tight_stands r number i tight m n l h o g = let w = tight_at i tight l h in
      let t = numbered.tightened (tight_as tight) number m.branch.next i in
      let u = change.tightened number m.branch.next (at ts i) in
      on_ok_weaker r (λ e. on (λ x. IsMadeAt ts x (change.with_steps u.steps u.next (made_at ts m))) (numbered.with_steps t.steps t.next m) n (
        steps_below ts stored (tight_as tight) t.steps t.next m (tightened_below ts stored (tight_as tight) number m.branch.next i w).1 o,
        steps_are ts stored (tight_as tight) t.steps t.next m ∙ ap (λ (x : change.Tightened). change.with_steps x.steps x.next (made_at ts m)) (tightened_is ts stored (tight_as tight) number m.branch.next i w),
      ) e) g

  pub add_stands : {A E : Type 0} (r : Result A E) (f : NumberedFact) (m n : NumberedMade) → IsFactBelow (length ts) f → IsMadeOver ts m
      → OnOk r (n ≡ numbered.added (seen_of ts) f m) → OnOk r (IsMadeAt ts n (change.added (fact_at ts f) (made_at ts m)))
  add_stands r f m n l h g = on_ok_weaker r (on (λ x. IsMadeAt ts x (change.added (fact_at ts f) (made_at ts m))) (numbered.added (seen_of ts) f m) n (adds ts stored (seen_of ts) (are_seen ts) f m l h)) g

  pub each_stands : {A E : Type 0} (r : Result A E) (fs : List NumberedFact) (m n : NumberedMade) → AllByRecursion (IsFactBelow (length ts)) fs → IsMadeOver ts m
      → OnOk r (n ≡ numbered.added_each (seen_of ts) fs m) → OnOk r (IsMadeAt ts n (change.added_each (map (fact_at ts) fs) (made_at ts m)))
  each_stands r fs m n l h g = on_ok_weaker r (on (λ x. IsMadeAt ts x (change.added_each (map (fact_at ts) fs) (made_at ts m))) (numbered.added_each (seen_of ts) fs m) n (adds_each ts stored (seen_of ts) (are_seen ts) fs m l h)) g

  pub change_stands : (place : ℕ) (f : NumberedFact) (m n : NumberedMade) → IsFactBelow (length ts) f → IsMadeOver ts m → n ≡ numbered.changed_at (seen_of ts) place f m
      → IsMadeAt ts n (change.changed_at place (fact_at ts f) (made_at ts m))
  change_stands place f m n l h e = on (λ x. IsMadeAt ts x (change.changed_at place (fact_at ts f) (made_at ts m))) (numbered.changed_at (seen_of ts) place f m) n (changes_at ts stored (seen_of ts) (are_seen ts) place f m l h) e

  pub kept_stands : (place : ℕ) (f : NumberedFact) (fs gs : List NumberedFact) → IsFactBelow (length ts) f → AllByRecursion (IsFactBelow (length ts)) fs
      → gs ≡ numbered.kept (seen_of ts) (take place fs) f (drop (place + 1) fs)
      → map (fact_at ts) gs ≡ change.kept (take place (map (fact_at ts) fs)) (fact_at ts f) (drop (place + 1) (map (fact_at ts) fs))
  kept_stands place f fs gs l h e = ap (map (fact_at ts)) e
      ∙ (keeps ts stored (seen_of ts) (are_seen ts) (take place fs) (drop (place + 1) fs) f (all_take (IsFactBelow (length ts)) place fs h) l (all_drop (IsFactBelow (length ts)) (place + 1) fs h)).1
      ∙ (λ k. change.kept (sym (take-map (fact_at ts) place fs) k) (fact_at ts f) (sym (drop-map (fact_at ts) (place + 1) fs) k))
