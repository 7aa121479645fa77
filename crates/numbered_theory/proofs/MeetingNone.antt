-- Linear facts that meet none of the facts before them.
use Rattle.std.proofs.Common.{◌≡◌, refl, sym, ap, ◌∙◌, ℕ, true, false, nat_eq, List, [], ◌∷◌, ◌++◌, map, length}
use Rattle.std.specs.List.{list_any, AllByRecursion}
use Rattle.logic_core.specs.Combine.{lead}
use Rattle.logic_core.proofs.EachOf.{every_append, every_map}
use Rattle.tableau_branch.specs.Branch.{none}
use Rattle.theory_rules.specs.Combining.{counted, are_opposite, combine_pair}
use Rattle.theory_rules.proofs.Attempting.{or_else, first_is}
use Rattle.numbered_terms.specs.Stored.{Numbered, Grows}
use Rattle.numbered_theory.specs.Entries.{entry_at, entries_at, IsEntryBelow}
use Rattle.numbered_theory.specs.Leads.{IsNoted}
use Rattle.numbered_theory.specs.declared.entries.Entry.{Entry}
use Rattle.numbered_theory.proofs.LeadsNoted.{noted_more, all_noted_stay}
use Rattle.numbered_theory.proofs.Pairing.{pair_apart}
use Rattle.numbered_theory.proofs.PairsTried.{one_pair, with_one}

-- nothing comes of it with one of these
pub with_none : (n : Numbered) (es : List Entry) (e : Entry) (above below : List ℕ) → ((d : Entry) → IsNoted n.terms above below d → are_opposite (lead (counted (entry_at n.terms d))) (lead (counted (entry_at n.terms e))) ≡ false)
    → (ds : List Entry) → AllByRecursion (IsNoted n.terms above below) ds → with_one n es e ds ≡ none
with_none n es e above below f [] h = refl
with_none n es e above below f (d ∷ ds) h =
    first_is (combine_pair (entries_at n.terms es)) (entry_at n.terms d, entry_at n.terms e) (map (λ y. (y, entry_at n.terms e)) (entries_at n.terms ds))
    ∙ ap (λ x. or_else x (with_one n es e ds)) (pair_apart (entries_at n.terms es) (entry_at n.terms d) (entry_at n.terms e) (f d h.0)) ∙ with_none n es e above below f ds h.1

-- it is noted beside them
module _ (n : Numbered) (above below above' below' : List ℕ) (over : (j : ℕ) → list_any (nat_eq j) above ≡ true → list_any (nat_eq j) above' ≡ true) (under : (j : ℕ) → list_any (nat_eq j) below ≡ true → list_any (nat_eq j) below' ≡ true)
    (ds : List Entry) (e : Entry) (before : AllByRecursion (IsNoted n.terms above below) ds) (here : IsNoted n.terms above' below' e) where
  pub noted_next : AllByRecursion (IsNoted n.terms above' below') (ds ++ e ∷ [])
  noted_next = every_append (IsNoted n.terms above' below') ds (e ∷ []) (every_map (IsNoted n.terms above below) (IsNoted n.terms above' below') (noted_more above below above' below' over under n.terms) ds before) (here, tt)

  pub noted_later : (m : Numbered) → Grows n m → AllByRecursion (IsEntryBelow (length n.terms)) ds → IsEntryBelow (length n.terms) e → AllByRecursion (IsNoted m.terms above' below') (ds ++ e ∷ [])
  noted_later m g low low_e = all_noted_stay n m g above' below' (ds ++ e ∷ []) (every_append (IsEntryBelow (length n.terms)) ds (e ∷ []) low (low_e, tt)) noted_next
