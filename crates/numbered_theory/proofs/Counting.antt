-- What facts count as, by number.
use Rattle.std.proofs.Common.{◌≡◌, sym, subst, ◌∙◌, ℕ, List, ◌++◌, length}
use Rattle.std.specs.List.{AllByRecursion}
use Rattle.std.proofs.lemmas.List.{map-append}
use Rattle.logic_core.proofs.EachOf.{every_append}
use Rattle.term_bank.specs.Numbered.{at}
use Rattle.numbered_terms.specs.Stored.{Numbered, Grows}
use Rattle.numbered_branches.specs.Branches.{NumberedFact}
use Rattle.numbered_theory.specs.Counts.{counted_as, Counts}
use Rattle.numbered_theory.specs.Entries.{entry_at, entries_at, IsEntryBelow, AreEntriesAt, entries_over}
use Rattle.numbered_theory.specs.declared.entries.Often.{Often}
use Rattle.numbered_theory.specs.declared.entries.Entry.{Entry}
use Rattle.numbered_theory.proofs.Entered.{entries_stay, entries_below}

-- the entries of one more fact
module _ (n m : Numbered) (es new : List Entry) (c : Often) (g : Grows n m) (h : AllByRecursion (IsEntryBelow (length n.terms)) es) where
  with_more : (t number : ℕ) → Counts m.terms c (entries_over n.vars n.defs (at n.terms t)) → new ≡ es ++ counted_as c number → AreEntriesAt m.terms new (entries_at n.terms es ++ entries_over n.vars n.defs (at n.terms t) number)
  with_more t number counts e = subst (λ (xs : List Entry). AreEntriesAt m.terms xs (entries_at n.terms es ++ entries_over n.vars n.defs (at n.terms t) number)) (sym e) (
    every_append (IsEntryBelow (length m.terms)) es (counted_as c number) (entries_below n m g es h) (counts number).0,
    map-append (entry_at m.terms) es (counted_as c number) ∙ (λ k. entries_stay n m g es h k ++ (counts number).1 k),
  )

  pub entries_more : (t number : ℕ) (f : NumberedFact) → record { term = t; number = number } ≡ f → Counts m.terms c (entries_over n.vars n.defs (at n.terms t)) → new ≡ es ++ counted_as c number
      → AreEntriesAt m.terms new (entries_at n.terms es ++ entries_over n.vars n.defs (at n.terms f.term) f.number)
  entries_more t number f is counts e = subst (λ (x : NumberedFact). AreEntriesAt m.terms new (entries_at n.terms es ++ entries_over n.vars n.defs (at n.terms x.term) x.number)) is (with_more t number counts e)
