use Rattle.std.proofs.Common.{◌≡◌, ◌++◌, length, map, drop, flat_map}
use Rattle.std.specs.List.{AllByRecursion}
use Rattle.numbered_terms.specs.Stored.{Grows}
use Rattle.numbered_branches.specs.Branches.{branch_at, fact_at}
use Rattle.theory_rules.specs.Combining.{entries_of, entries}
use Rattle.numbered_theory.specs.Entries.{entries_at, IsEntryBelow}
use Rattle.numbered_theory.proofs.entries.entries.Given as goal

abbrev pub invariant-loop-fact : goal.invariant-loop-fact
invariant-loop-fact l = record {
  grows : Grows l.fn.store l.store;
  below : AllByRecursion (IsEntryBelow (length l.store.terms)) l.entries.items;
  made : entries_at l.store.terms l.entries.items ++ flat_map (entries_of l.fn.store.defs (branch_at l.fn.store.terms l.branch)) (map (fact_at l.fn.store.terms) (drop l.fact-index l.branch.facts)) ≡ entries l.fn.store.defs (branch_at l.fn.store.terms l.branch);
}
