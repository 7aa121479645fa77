-- Linear facts and the atoms of their leads.
use Rattle.std.proofs.Common.{◌≡◌, refl, sym, ap, subst, ◌∙◌, ℕ, zero, suc, ◌+◌, ◌<◌, ℤ, Bool, false, ◌&&◌, ◌||◌, Option, Some, None, IfSome, option_map, List, [], ◌∷◌, ◌++◌, length, take, get_or, arith}
use Rattle.std.specs.List.{AllZip, AllByRecursion}
use Rattle.logic_core.specs.Tree.{Tree}
use Rattle.logic_core.specs.Combine.{lead, sum_of}
use Rattle.term_bank.specs.Numbered.{at}
use Rattle.term_bank.proofs.NumberedLists.{zip_push}
use Rattle.tableau_branch.proofs.Lists.{take_item}
use Rattle.numbered_facts.proofs.EachOnce.{same_number}
use Rattle.theory_rules.specs.Combining.{counted, is_positive, is_negative, are_opposite}
use Rattle.theory_rules.specs.Counting.{counted_number}
use Rattle.theory_rules.proofs.CountedForms.{lead_counted}
use Rattle.numbered_terms.specs.Stored.{Numbered, Grows, AreStored}
use Rattle.numbered_branches.proofs.Growing.{stays}
use Rattle.numbered_theory.specs.Entries.{entry_at, IsEntryBelow}
use Rattle.numbered_theory.specs.Leads.{IsLed, AreLed, is_one_atom}
use Rattle.numbered_theory.specs.declared.entries.Entry.{Entry}
use Rattle.numbered_theory.proofs.LeadsNoted.{atoms_stay, atoms_below}

-- of two lists that go together the first items, the items at a place, and one item more of each
module _ {A B : Type 0} (R : A → B → Type 0) where
  pub zip_take : (i : ℕ) (xs : List A) (ys : List B) → AllZip R xs ys → AllZip R (take i xs) (take i ys)
  zip_take zero xs ys h = tt
  zip_take (suc i) [] [] h = tt
  zip_take (suc i) [] (y ∷ ys) h = absurd h
  zip_take (suc i) (x ∷ xs) [] h = absurd h
  zip_take (suc i) (x ∷ xs) (y ∷ ys) h = (h.0, zip_take i xs ys h.1)

  pub zip_at : (xs : List A) (ys : List B) (i : ℕ) (x : A) (y : B) → AllZip R xs ys → i < length xs → x ≡ get_or xs i x → y ≡ get_or ys i y → R x y
  zip_at [] ys i x y h l is too = absurd (omega (arith, l))
  zip_at (a ∷ xs) [] i x y h l is too = absurd h
  zip_at (a ∷ xs) (b ∷ ys) zero x y h l is too = subst (λ (u : A). R u y) (sym is) (subst (R a) (sym too) h.0)
  zip_at (a ∷ xs) (b ∷ ys) (suc i) x y h l is too = zip_at xs ys i x y h.1 (omega (arith, l)) is too

  pub zip_more : (xs : List A) (i : ℕ) (ys zs : List B) (x : A) (y : B) → i < length xs → x ≡ get_or xs i x → AllZip R (take i xs) ys → R x y → zs ≡ ys ++ y ∷ [] → AllZip R (take (i + 1) xs) zs
  zip_more xs i ys zs x y l is h r pushed = subst (AllZip R (take (i + 1) xs)) (sym pushed) (subst (λ (us : List A). AllZip R us (ys ++ y ∷ [])) (sym (take_item xs i x l is)) (zip_push R (take i xs) ys x y h r))

-- facts whose leads are of two atoms aren't opposite
module _ (ts : List Tree) (stored : AreStored ts) where
  abbrev lead_as : Bool → Option (ℤ × ℕ) → Option (ℤ × Tree)
  lead_as turned o = option_map (λ (q : ℤ × Tree). (counted_number turned q.0, q.1)) (option_map (λ (p : ℤ × ℕ). (p.0, at ts p.1)) o)

  apart_by : (u v : Bool) (o p : Option (ℤ × ℕ)) → IfSome o (λ q. q.1 < length ts) → IfSome p (λ q. q.1 < length ts) → is_one_atom (option_map (λ (q : ℤ × ℕ). q.1) o) (option_map (λ (q : ℤ × ℕ). q.1) p) ≡ false → are_opposite (lead_as u o) (lead_as v p) ≡ false
  apart_by u v None p l k h = refl
  apart_by u v (Some a) None l k h = refl
  apart_by u v (Some a) (Some b) l k h = ap (λ (x : Bool). x && ((is_negative (counted_number u a.0) && is_positive (counted_number v b.0)) || (is_positive (counted_number u a.0) && is_negative (counted_number v b.0)))) (sym (same_number ts stored.apart a.1 b.1 l k) ∙ h)

  pub led_apart : (d e : Entry) (o p : Option ℕ) → IsLed ts d.sum o → IsLed ts e.sum p → is_one_atom o p ≡ false → are_opposite (lead (counted (entry_at ts d))) (lead (counted (entry_at ts e))) ≡ false
  led_apart d e o p h k apart =
      let mine : lead (counted (entry_at ts d)) ≡ lead_as d.turned h.first = lead_counted (entry_at ts d) ∙ ap (option_map (λ (q : ℤ × Tree). (counted_number d.turned q.0, q.1))) (sym h.is) in
      let theirs : lead (counted (entry_at ts e)) ≡ lead_as e.turned k.first = lead_counted (entry_at ts e) ∙ ap (option_map (λ (q : ℤ × Tree). (counted_number e.turned q.0, q.1))) (sym k.is) in
      (λ j. are_opposite (mine j) (theirs j)) ∙ apart_by d.turned e.turned h.first k.first h.within k.within ((λ j. is_one_atom (h.atom_is j) (k.atom_is j)) ∙ apart)

-- a longer store
module _ (n m : Numbered) (g : Grows n m) where
  pub led_stays : (sum : ℕ) (o : Option ℕ) → sum < length n.terms → IsLed n.terms sum o → IsLed m.terms sum o
  led_stays sum o low h = record { first = h.first; is = atoms_stay n m g h.first h.within ∙ h.is ∙ sym (ap (λ (t : Tree). lead (sum_of t)) (stays n m sum g low)); within = atoms_below n m g h.first h.within; atom_is = h.atom_is }

  pub all_led_stay : (es : List Entry) (os : List (Option ℕ)) → AllByRecursion (IsEntryBelow (length n.terms)) es → AreLed n.terms es os → AreLed m.terms es os
  all_led_stay [] [] low h = tt
  all_led_stay [] (o ∷ os) low h = absurd h
  all_led_stay (e ∷ es) [] low h = absurd h
  all_led_stay (e ∷ es) (o ∷ os) low h = (led_stays e.sum o low.0 h.0, all_led_stay es os low.1 h.1)
