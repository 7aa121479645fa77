use Rattle.std.proofs.Common.{ℕ, ◌≤◌, List, ◌++◌, drop}
use Rattle.numbered_terms.specs.Stored.{Grows}
use Rattle.numbered_instances.specs.Shared.{AreShared}
use Rattle.numbered_instances.proofs.shared.leave_until.Given as goal

abbrev pub invariant-loop-at : goal.invariant-loop-at
invariant-loop-at l = record {
  grows : Grows l.fn.store l.store;
  order : l.at ≤ l.until;
  left : (before : List ℕ) → AreShared l.fn.store.terms (before ++ drop l.from l.listed) l.fn.counts.items → AreShared l.store.terms (before ++ drop l.at l.listed) l.counts.items;
}
