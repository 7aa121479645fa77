use Rattle.std.proofs.Common.{◌≡◌, [], drop, take}
use Rattle.std.specs.List.{AllByRecursion}
use Rattle.tableau_branch.specs.Branch.{first_attempt}
use Rattle.numbered_terms.specs.Stored.{Grows}
use Rattle.theory_rules.specs.Combining.{combine_pair, pairs_from}
use Rattle.numbered_theory.specs.Entries.{entries_at}
use Rattle.numbered_theory.specs.Leads.{IsNoted}
use Rattle.numbered_theory.specs.Tried.{IsTried}
use Rattle.numbered_theory.proofs.combining.first_led.Given as goal

abbrev pub invariant-loop-i : goal.invariant-loop-i
invariant-loop-i l = record {
  grows : Grows l.fn.store l.store;
  first : first_attempt (combine_pair (entries_at l.fn.store.terms l.entries)) (pairs_from (take l.i (entries_at l.fn.store.terms l.entries)) (drop l.i (entries_at l.fn.store.terms l.entries))) ≡ first_attempt (combine_pair (entries_at l.fn.store.terms l.entries)) (pairs_from [] (entries_at l.fn.store.terms l.entries));
  tried : IsTried (entries_at l.fn.store.terms l.entries) l.i;
  noted : AllByRecursion (IsNoted l.store.terms l.leads.above l.leads.below) (take l.i l.entries);
}
