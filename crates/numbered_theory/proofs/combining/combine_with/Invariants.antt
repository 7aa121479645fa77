use Rattle.std.proofs.Common.{◌≡◌, drop, map}
use Rattle.tableau_branch.specs.Branch.{first_attempt}
use Rattle.numbered_terms.specs.Stored.{Grows}
use Rattle.theory_rules.specs.Combining.{combine_pair}
use Rattle.numbered_theory.specs.Entries.{entry_at, entries_at}
use Rattle.numbered_theory.proofs.combining.combine_with.Given as goal

abbrev pub invariant-loop-i : goal.invariant-loop-i
invariant-loop-i l = record {
  grows : Grows l.fn.store l.store;
  first : first_attempt (combine_pair (entries_at l.fn.store.terms l.entries)) (map (λ d. (d, entry_at l.fn.store.terms l.e)) (entries_at l.fn.store.terms (drop l.i l.before))) ≡ first_attempt (combine_pair (entries_at l.fn.store.terms l.entries)) (map (λ d. (d, entry_at l.fn.store.terms l.e)) (entries_at l.fn.store.terms l.before));
}
