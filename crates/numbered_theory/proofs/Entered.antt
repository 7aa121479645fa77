-- Linear facts by number in a longer store.
use Rattle.std.proofs.Common.{◌≡◌, refl, List, [], ◌∷◌, length}
use Rattle.std.specs.List.{AllByRecursion}
use Rattle.logic_core.specs.Combine.{sum_of}
use Rattle.numbered_terms.specs.Stored.{Numbered, Grows}
use Rattle.numbered_theory.specs.Entries.{entry_at, entries_at, IsEntryBelow}
use Rattle.numbered_theory.specs.Combined.{combined_at, IsCombinedBelow}
use Rattle.numbered_theory.specs.declared.combining.Combined.{Combined}
use Rattle.numbered_theory.specs.declared.entries.Entry.{Entry}
use Rattle.numbered_branches.proofs.Growing.{stays, below}

module _ (n m : Numbered) (g : Grows n m) where
  pub entry_stays : (e : Entry) → IsEntryBelow (length n.terms) e → entry_at m.terms e ≡ entry_at n.terms e
  entry_stays e l = λ k. record { number = e.number; form = sum_of (stays n m e.sum g l k); turned = e.turned }

  pub entries_stay : (es : List Entry) → AllByRecursion (IsEntryBelow (length n.terms)) es → entries_at m.terms es ≡ entries_at n.terms es
  entries_stay [] h = refl
  entries_stay (e ∷ es) h = λ k. entry_stays e h.0 k ∷ entries_stay es h.1 k

  pub entries_below : (es : List Entry) → AllByRecursion (IsEntryBelow (length n.terms)) es → AllByRecursion (IsEntryBelow (length m.terms)) es
  entries_below [] h = tt
  entries_below (e ∷ es) h = (below n m e.sum g h.0, entries_below es h.1)

  pub combined_stays : (c : Combined) → IsCombinedBelow (length n.terms) c → combined_at m.terms c ≡ combined_at n.terms c
  combined_stays c h = λ k. record { first = entry_stays c.first h.first k; second = entry_stays c.second h.second k; p = c.p; q = c.q; fact = stays n m c.fact g h.fact k }

  pub combined_below : (c : Combined) → IsCombinedBelow (length n.terms) c → IsCombinedBelow (length m.terms) c
  combined_below c h = record { first = below n m c.first.sum g h.first; second = below n m c.second.sum g h.second; fact = below n m c.fact g h.fact }
