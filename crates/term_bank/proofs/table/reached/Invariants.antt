use Rattle.std.proofs.Common.{◌<◌, ◌≤◌, ℕ, take}
use Rattle.std.specs.List.{All}
use Rattle.term_bank.specs.declared.table.Entry.{Entry}
use Rattle.term_bank.proofs.table.reached.Given as goal

abbrev pub invariant-loop-entry : goal.invariant-loop-entry
invariant-loop-entry l = record {
  each : All (λ (e : Entry). e.place < l.count) (take l.entry-index l.entries);
  least : (n : ℕ) → All (λ (e : Entry). e.place < n) l.entries → l.count ≤ n;
}
