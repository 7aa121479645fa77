-- Lead atoms that are noted, and facts that none of them meets.
use Rattle.std.proofs.Common.{◌≡◌, refl, sym, ap, subst, ◌∙◌, ℕ, ◌<◌, ℤ, nat_eq, Bool, true, false, true≢false, ◌&&◌, ◌||◌, Option, Some, None, IfSome, option_map, List, [], ◌∷◌, length}
use Rattle.std.specs.List.{list_any, AllByRecursion}
use Rattle.std.proofs.lemmas.Bool.{eqb-true}
use Rattle.logic_core.specs.Tree.{Tree}
use Rattle.logic_core.specs.Same.{same_term}
use Rattle.logic_core.specs.Combine.{lead, sum_of}
use Rattle.logic_core.proofs.Booleans.{neither, none_of}
use Rattle.term_bank.specs.Numbered.{at}
use Rattle.numbered_facts.proofs.EachOnce.{same_number}
use Rattle.theory_rules.specs.Combining.{counted, is_positive, is_negative, are_opposite}
use Rattle.theory_rules.specs.Counting.{counted_number}
use Rattle.theory_rules.proofs.CountedForms.{lead_counted}
use Rattle.numbered_terms.specs.Stored.{Numbered, Grows, AreStored}
use Rattle.numbered_branches.proofs.Growing.{stays, below as in_longer}
use Rattle.numbered_theory.specs.Entries.{entry_at, IsEntryBelow}
use Rattle.numbered_theory.specs.Leads.{IsPut, meets, IsNoted}
use Rattle.numbered_theory.specs.declared.entries.Entry.{Entry}

-- what two tests say where one narrows the other
passed_by : (x y z : Bool) → (x ≡ true → z ≡ true) → (y && z) ≡ false → (x && y) ≡ false
passed_by false y z h g = refl
passed_by true false z h g = refl
passed_by true true z h g = absurd (true≢false (sym (h refl) ∙ g))

signs_apart : (negative positive mine_negative mine_positive over under : Bool) → (positive ≡ true → over ≡ true) → (negative ≡ true → under ≡ true) → ((mine_negative && over) || (mine_positive && under)) ≡ false
    → ((negative && mine_positive) || (positive && mine_negative)) ≡ false
signs_apart n p m q over under hp hn g = let two = neither (m && over) (q && under) g in none_of (n && q) (p && m) (passed_by n q under hn two.1) (passed_by p m over hp two.0)

module _ (ts : List Tree) (stored : AreStored ts) (above below : List ℕ) where
  abbrev lead_as : Bool → Option (ℤ × ℕ) → Option (ℤ × Tree)
  lead_as turned o = option_map (λ (q : ℤ × Tree). (counted_number turned q.0, q.1)) (option_map (λ (p : ℤ × ℕ). (p.0, at ts p.1)) o)

  apart_by : (u v : Bool) (o p : Option (ℤ × ℕ)) → IfSome o (λ q. q.1 < length ts) → IfSome p (λ q. q.1 < length ts) → IsPut above below u o → meets above below v p ≡ false → are_opposite (lead_as u o) (lead_as v p) ≡ false
  apart_by u v None p l k put h = refl
  apart_by u v (Some a) None l k put h = refl
  apart_by u v (Some a) (Some b) l k put h = by (nat_eq a.1 b.1) refl
    where
      by : (s : Bool) → nat_eq a.1 b.1 ≡ s → (same_term (at ts a.1) (at ts b.1) && ((is_negative (counted_number u a.0) && is_positive (counted_number v b.0)) || (is_positive (counted_number u a.0) && is_negative (counted_number v b.0)))) ≡ false
      by false e = ap (λ (x : Bool). x && ((is_negative (counted_number u a.0) && is_positive (counted_number v b.0)) || (is_positive (counted_number u a.0) && is_negative (counted_number v b.0)))) (sym (same_number ts stored.apart a.1 b.1 l k) ∙ e)
      by true e = let one : a.1 ≡ b.1 = eqb-true a.1 b.1 e in
          ap (λ (x : Bool). x && ((is_negative (counted_number u a.0) && is_positive (counted_number v b.0)) || (is_positive (counted_number u a.0) && is_negative (counted_number v b.0)))) (sym (same_number ts stored.apart a.1 b.1 l k) ∙ e)
          ∙ signs_apart (is_negative (counted_number u a.0)) (is_positive (counted_number u a.0)) (is_negative (counted_number v b.0)) (is_positive (counted_number v b.0)) (list_any (nat_eq b.1) above) (list_any (nat_eq b.1) below)
          (λ g. subst (λ (j : ℕ). list_any (nat_eq j) above ≡ true) one (put.0 g)) (λ g. subst (λ (j : ℕ). list_any (nat_eq j) below ≡ true) one (put.1 g)) h

  -- where it meets no lead atom that was noted, the fact is opposite to none that was
  pub apart : (e : Entry) (p : Option (ℤ × ℕ)) (b : Bool) → option_map (λ (q : ℤ × ℕ). (q.0, at ts q.1)) p ≡ lead (sum_of (at ts e.sum)) → IfSome p (λ q. q.1 < length ts) → b ≡ meets above below e.turned p → b ≡ false
      → (d : Entry) → IsNoted ts above below d → are_opposite (lead (counted (entry_at ts d))) (lead (counted (entry_at ts e))) ≡ false
  apart e p b is within says h d noted =
      let mine : lead (counted (entry_at ts d)) ≡ lead_as d.turned noted.first = lead_counted (entry_at ts d) ∙ ap (option_map (λ (q : ℤ × Tree). (counted_number d.turned q.0, q.1))) (sym noted.is) in
      let theirs : lead (counted (entry_at ts e)) ≡ lead_as e.turned p = lead_counted (entry_at ts e) ∙ ap (option_map (λ (q : ℤ × Tree). (counted_number e.turned q.0, q.1))) (sym is) in
      (λ k. are_opposite (mine k) (theirs k)) ∙ apart_by d.turned e.turned noted.first p noted.within within noted.put (sym says ∙ h)

-- more numbers
module _ (above below above' below' : List ℕ) (over : (j : ℕ) → list_any (nat_eq j) above ≡ true → list_any (nat_eq j) above' ≡ true) (under : (j : ℕ) → list_any (nat_eq j) below ≡ true → list_any (nat_eq j) below' ≡ true) where
  put_more : (turned : Bool) (o : Option (ℤ × ℕ)) → IsPut above below turned o → IsPut above' below' turned o
  put_more turned None h = tt
  put_more turned (Some p) h = (λ g. over p.1 (h.0 g), λ g. under p.1 (h.1 g))

  pub noted_more : (ts : List Tree) (e : Entry) → IsNoted ts above below e → IsNoted ts above' below' e
  noted_more ts e h = record { first = h.first; is = h.is; within = h.within; put = put_more e.turned h.first h.put }

-- a longer store
module _ (n m : Numbered) (g : Grows n m) where
  abbrev pub atom_at : List Tree → ℤ × ℕ → ℤ × Tree
  atom_at ts p = (p.0, at ts p.1)

  atom_stays : (p : ℤ × ℕ) → p.1 < length n.terms → atom_at m.terms p ≡ atom_at n.terms p
  atom_stays p l = λ k. (p.0, stays n m p.1 g l k)

  pub atoms_stay : (o : Option (ℤ × ℕ)) → IfSome o (λ p. p.1 < length n.terms) → option_map (atom_at m.terms) o ≡ option_map (atom_at n.terms) o
  atoms_stay None l = refl
  atoms_stay (Some p) l = ap Some (atom_stays p l)

  pub atoms_below : (o : Option (ℤ × ℕ)) → IfSome o (λ p. p.1 < length n.terms) → IfSome o (λ p. p.1 < length m.terms)
  atoms_below None l = tt
  atoms_below (Some p) l = in_longer n m p.1 g l

  module _ (above below : List ℕ) where
    noted_stays : (e : Entry) → IsEntryBelow (length n.terms) e → IsNoted n.terms above below e → IsNoted m.terms above below e
    noted_stays e low h = record { first = h.first; is = atoms_stay h.first h.within ∙ h.is ∙ sym (ap (λ (t : Tree). lead (sum_of t)) (stays n m e.sum g low)); within = atoms_below h.first h.within; put = h.put }

    pub all_noted_stay : (es : List Entry) → AllByRecursion (IsEntryBelow (length n.terms)) es → AllByRecursion (IsNoted n.terms above below) es → AllByRecursion (IsNoted m.terms above below) es
    all_noted_stay [] low h = tt
    all_noted_stay (e ∷ es) low h = (noted_stays e low.0 h.0, all_noted_stay es low.1 h.1)
