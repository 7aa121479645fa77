-- Sides of facts that are opposite have lead atoms that meet.
use Rattle.std.proofs.Common.{◌≡◌, refl, sym, ap, ◌∙◌, ℕ, ◌<◌, ℤ, neg_ℤ, Bool, true, false, true≢false, not, ◌&&◌, ◌||◌, Option, Some, None, IfSome, option_map, if◌then◌else◌, List, [], ◌∷◌, length}
use Rattle.std.specs.List.{list_any, AllByRecursion}
use Rattle.std.specs.Ordering.{int_eq}
use Rattle.std.proofs.lemmas.Bool.Decides.{Decides-int_eq}
use Rattle.logic_core.specs.Tree.{Tree, Parts, no_parts, part}
use Rattle.logic_core.specs.Same.{same_term, same_parts}
use Rattle.logic_core.specs.Sum.{Linear}
use Rattle.logic_core.specs.Combine.{lead, sum_of, first_part}
use Rattle.logic_core.proofs.Booleans.{neither, none_of}
use Rattle.logic_core.proofs.SameTerm.{same_is_equal, same_as_itself}
use Rattle.term_bank.specs.Numbered.{at}
use Rattle.numbered_facts.proofs.EachOnce.{same_number}
use Rattle.numbered_terms.specs.Stored.{AreStored}
use Rattle.theory_rules.specs.Combining.{counted, opposite_parts, is_positive, is_negative, are_opposite}
use Rattle.theory_rules.specs.Trichotomy.{is_opposite}
use Rattle.theory_rules.proofs.CountedForms.{turned_above, turned_below}
use Rattle.numbered_theory.specs.Entries.{entry_at}
use Rattle.numbered_theory.specs.declared.entries.Entry.{Entry}
use Rattle.numbered_theory.specs.Leads.{has_no_sign, side_entry, IsNoted, IsLed, signed_atom, IsSignedAtom, may_be_one}
use Rattle.numbered_theory.specs.Sums.{sums_at}

-- a coefficient with a sign
unsigned : (p n : Bool) → (not p && not n) ≡ false → ((p && p) || (n && n)) ≡ true
unsigned true n h = refl
unsigned false true h = refl
unsigned false false h = absurd (true≢false h)

equal_numbers : (j k : ℤ) → int_eq j k ≡ true → j ≡ k
equal_numbers j k h = (Decides-int_eq j k).0 h

module _ (k : ℤ) (t : Tree) (signed : (not (is_positive k) && not (is_negative k)) ≡ false) where
  -- the opposite of a part meets it
  meets_opposite : (j : ℤ) (u : Tree) → j ≡ neg_ℤ k → u ≡ t → are_opposite (Some (j, u)) (Some (k, t)) ≡ true
  meets_opposite j u is same =
      (λ x. same_term (same x) t && ((is_negative (is x) && is_positive k) || (is_positive (is x) && is_negative k)))
      ∙ (λ x. same_as_itself t x && ((turned_below k x && is_positive k) || (turned_above k x && is_negative k)))
      ∙ unsigned (is_positive k) (is_negative k) signed

  first_apart : (ps qs : Parts) → are_opposite (first_part qs) (Some (k, t)) ≡ false → same_parts (opposite_parts (part k t ps)) qs ≡ false
  first_apart ps no_parts h = refl
  first_apart ps (part j u qs) h = by (int_eq (neg_ℤ k) j) (same_term t u) refl refl
    where
      by : (a b : Bool) → int_eq (neg_ℤ k) j ≡ a → same_term t u ≡ b → (int_eq (neg_ℤ k) j && (same_term t u && same_parts (opposite_parts ps) qs)) ≡ false
      by false b e f = ap (λ (x : Bool). x && (same_term t u && same_parts (opposite_parts ps) qs)) e
      by true false e f = λ x. e x && (f x && same_parts (opposite_parts ps) qs)
      by true true e f = absurd (true≢false (sym (meets_opposite j u (sym (equal_numbers (neg_ℤ k) j e)) (sym (same_is_equal t u f))) ∙ h))

  -- so a form that it doesn't meet isn't the opposite of one that it leads
  parts_apart : (ps qs : Parts) → first_part ps ≡ Some (k, t) → are_opposite (first_part qs) (first_part ps) ≡ false → same_parts (opposite_parts ps) qs ≡ false
  parts_apart no_parts qs is h = absurd (cc)
  parts_apart (part l u ps) qs is h = (λ x. same_parts (opposite_parts (part ((led is).0 x) ((led is).1 x) ps)) qs) ∙ first_apart ps qs (ap (are_opposite (first_part qs)) (sym is) ∙ h)
    where
      led : first_part (part l u ps) ≡ Some (k, t) → (l ≡ k) × (u ≡ t)
      led e = let p : ◌≡◌ {A = ℤ × Tree} (l, u) (k, t) = cc in (λ x. (p x).0, λ x. (p x).1)

  pub side_apart : (x r : Linear) → lead x ≡ Some (k, t) → are_opposite (lead r) (lead x) ≡ false → is_opposite x r ≡ false
  side_apart x r is h = ap (λ (b : Bool). b && int_eq (neg_ℤ x.rest) r.rest) (parts_apart x.parts r.parts is h)

-- a side whose coefficient has a sign, and that meets none of those that were noted
pub apart_from : (ts : List Tree) (above below : List ℕ) (high : ℕ) (o : Option (ℤ × ℕ)) → option_map (λ (p : ℤ × ℕ). (p.0, at ts p.1)) o ≡ lead (sum_of (at ts high)) → has_no_sign o ≡ false
    → ((d : Entry) → IsNoted ts above below d → are_opposite (lead (counted (entry_at ts d))) (lead (counted (entry_at ts (side_entry high)))) ≡ false)
    → (s : ℕ) → IsNoted ts above below (side_entry s) → is_opposite (sum_of (at ts high)) (sum_of (at ts s)) ≡ false
apart_from ts above below high None is signed f s noted = absurd (true≢false signed)
apart_from ts above below high (Some p) is signed f s noted = side_apart p.0 (at ts p.1) signed (sum_of (at ts high)) (sum_of (at ts s)) (sym is) (f (side_entry s) noted)

pub none_opposite : (ts : List Tree) (above below : List ℕ) (high : ℕ) → ((s : ℕ) → IsNoted ts above below (side_entry s) → is_opposite (sum_of (at ts high)) (sum_of (at ts s)) ≡ false)
    → (sides : List ℕ) → AllByRecursion (λ (s : ℕ). IsNoted ts above below (side_entry s)) sides → list_any (is_opposite (sum_of (at ts high))) (sums_at ts sides) ≡ false
none_opposite ts above below high f [] h = refl
none_opposite ts above below high f (s ∷ ss) h = none_of _ _ (f s h.0) (none_opposite ts above below high f ss h.1)

-- a side whose lead has another atom
module _ (ts : List Tree) (stored : AreStored ts) (x r : Linear) where
  abbrev tree_at : ℤ × ℕ → ℤ × Tree
  tree_at p = (p.0, at ts p.1)

  apart : (p : ℤ × ℕ) (g : Option (ℤ × ℕ)) → Some (tree_at p) ≡ lead x → option_map tree_at g ≡ lead r → p.1 < length ts → IfSome g (λ q. q.1 < length ts)
      → (not (is_positive p.0) && not (is_negative p.0)) ≡ false → may_be_one (Some p.1) (option_map (λ (q : ℤ × ℕ). q.1) g) ≡ false → is_opposite x r ≡ false
  apart p None is too l k signed h = side_apart p.0 (at ts p.1) signed x r (sym is) (ap (λ (o : Option (ℤ × Tree)). are_opposite o (lead x)) (sym too))
  apart p (Some q) is too l k signed h = side_apart p.0 (at ts p.1) signed x r (sym is)
      (ap (λ (o : Option (ℤ × Tree)). are_opposite o (lead x)) (sym too) ∙ ap (are_opposite (Some (tree_at q))) (sym is)
      ∙ ap (λ (b : Bool). b && ((is_negative q.0 && is_positive p.0) || (is_positive q.0 && is_negative p.0))) (sym (same_number ts stored.apart q.1 p.1 k l) ∙ h))

  by_first : (f g : Option (ℤ × ℕ)) → option_map tree_at f ≡ lead x → option_map tree_at g ≡ lead r → IfSome f (λ q. q.1 < length ts) → IfSome g (λ q. q.1 < length ts)
      → may_be_one (signed_atom f) (option_map (λ (q : ℤ × ℕ). q.1) g) ≡ false → is_opposite x r ≡ false
  by_first None g is too l k h = absurd (true≢false h)
  by_first (Some p) g is too l k h = signed (not (is_positive p.0) && not (is_negative p.0)) refl h
    where
      signed : (b : Bool) → (not (is_positive p.0) && not (is_negative p.0)) ≡ b → may_be_one (if b then None else Some p.1) (option_map (λ (q : ℤ × ℕ). q.1) g) ≡ false → is_opposite x r ≡ false
      signed true e d = absurd (true≢false d)
      signed false e d = apart p g is too l k e d

pub other_apart : (ts : List Tree) (stored : AreStored ts) (x : Linear) (mine theirs : Option ℕ) (s : ℕ) → IsSignedAtom ts (lead x) mine → IsLed ts s theirs → may_be_one mine theirs ≡ false → is_opposite x (sum_of (at ts s)) ≡ false
other_apart ts stored x mine theirs s f g h = by_first ts stored x (sum_of (at ts s)) f.first g.first f.is g.is f.within g.within ((λ j. may_be_one (f.atom_is j) (g.atom_is j)) ∙ h)
