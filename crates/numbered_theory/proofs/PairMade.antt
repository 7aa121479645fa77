-- A pair of linear facts by number that was combined, in a store that grows.
use Rattle.std.proofs.Common.{◌≡◌, sym, ap, ◌∙◌, ℕ, ℤ, ◌/◌, Bool, true, false, ◌||◌, Some, List, length}
use Rattle.std.specs.List.{AllByRecursion}
use Rattle.logic_core.specs.Junction.{is_truth}
use Rattle.logic_core.specs.Sum.{Linear}
use Rattle.logic_core.specs.Tighten.{tighten, gcd}
use Rattle.logic_core.specs.Combine.{lead, sum_of, combined, at_least_zero}
use Rattle.tableau_branch.specs.Branch.{none, gives}
use Rattle.term_bank.specs.Numbered.{at}
use Rattle.theory_rules.specs.Combining.{counted, are_opposite, lead_size, multiplier, combined_pair, is_known}
use Rattle.theory_rules.proofs.CombinedPairs.{pair_is}
use Rattle.numbered_terms.specs.At.{IsAt}
use Rattle.numbered_terms.specs.Stored.{Numbered, Grows}
use Rattle.numbered_theory.specs.Combined.{combined_at, IsCombinedBelow}
use Rattle.numbered_theory.specs.Entries.{entry_at, entries_at, IsEntryBelow}
use Rattle.numbered_theory.specs.declared.combining.Combined.{Combined}
use Rattle.numbered_theory.specs.declared.entries.Entry.{Entry}
use Rattle.numbered_branches.proofs.Growing.{below}
use Rattle.numbered_theory.proofs.Entered.{entry_stays, entries_stay, combined_stays, combined_below}
use Rattle.numbered_theory.proofs.Pairing.{pair_known, pair_given}
use Rattle.numbered_theory.proofs.PairsTried.{one_pair}

module _ (n m : Numbered) (g : Grows n m) (es : List Entry) (h : AllByRecursion (IsEntryBelow (length n.terms)) es) (d e : Entry) (c : Combined) (over : IsCombinedBelow (length m.terms) c)
    (opposite : are_opposite (lead (counted (entry_at n.terms d))) (lead (counted (entry_at n.terms e))) ≡ true) (made : combined_pair (entry_at n.terms d) (entry_at n.terms e) ≡ Some (combined_at m.terms c)) where
  -- whether the sum is true or known
  abbrev pub says_so : Bool
  says_so = is_truth true (at m.terms c.fact) || is_known (entries_at m.terms es) (tighten (at m.terms c.fact))

  same : (is_truth true (at m.terms c.fact) || is_known (entries_at n.terms es) (tighten (at m.terms c.fact))) ≡ says_so
  same = λ k. is_truth true (at m.terms c.fact) || is_known (sym (entries_stay n m g es h) k) (tighten (at m.terms c.fact))

  pub said_before : says_so ≡ true → one_pair n es d e ≡ none
  said_before k = pair_known (entries_at n.terms es) (entry_at n.terms d) (entry_at n.terms e) (combined_at m.terms c) opposite made (same ∙ k)

  pub said_anew : (v : Numbered) → Grows m v → says_so ≡ false → IsCombinedBelow (length v.terms) c × (one_pair n es d e ≡ gives (combined_at v.terms c))
  said_anew v k f = (combined_below m v k c over, pair_given (entries_at n.terms es) (entry_at n.terms d) (entry_at n.terms e) (combined_at m.terms c) opposite made (same ∙ f) ∙ ap gives (sym (combined_stays m v k c over)))

-- the multipliers, the sum and its fact
pub pair_made : (n v : Numbered) → Grows n v → (d e : Entry) → IsEntryBelow (length n.terms) d → IsEntryBelow (length n.terms) e → (p q : ℤ) (s : Linear) (fact : ℕ)
    → multiplier (entry_at n.terms d) (lead_size (entry_at n.terms e) / gcd (lead_size (entry_at n.terms d)) (lead_size (entry_at n.terms e))) ≡ Some p
    → multiplier (entry_at n.terms e) (lead_size (entry_at n.terms d) / gcd (lead_size (entry_at n.terms d)) (lead_size (entry_at n.terms e))) ≡ Some q
    → combined (sum_of (at n.terms d.sum)) p (sum_of (at n.terms e.sum)) q ≡ Some s → IsAt v.terms fact (at_least_zero s)
    → IsCombinedBelow (length v.terms) (record { first = d; second = e; p = p; q = q; fact = fact }) × (combined_pair (entry_at n.terms d) (entry_at n.terms e) ≡ Some (combined_at v.terms (record { first = d; second = e; p = p; q = q; fact = fact })))
pair_made n v g d e low_d low_e p q s fact first second sum is = (
  record { first = below n v d.sum g low_d; second = below n v e.sum g low_e; fact = is.0 },
  pair_is (entry_at n.terms d) (entry_at n.terms e) p q s first second sum
      ∙ (λ j. Some (record { first = sym (entry_stays n v g d low_d) j; second = sym (entry_stays n v g e low_e) j; p = p; q = q; fact = sym is.1 j })),
)

-- where the sum isn't true: whether it is known after tightening
pub known_after : (n m : Numbered) → Grows n m → (es : List Entry) → AllByRecursion (IsEntryBelow (length n.terms)) es → (sum tight : ℕ) → IsAt m.terms tight (tighten (at n.terms sum)) → is_truth true (at n.terms sum) ≡ false
    → is_known (entries_at m.terms es) (at m.terms tight) ≡ (is_truth true (at n.terms sum) || is_known (entries_at n.terms es) (tighten (at n.terms sum)))
known_after n m g es h sum tight is untrue = (λ k. is_known (entries_stay n m g es h k) (is.1 k)) ∙ ap (λ (b : Bool). b || is_known (entries_at n.terms es) (tighten (at n.terms sum))) (sym untrue)
