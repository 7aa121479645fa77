use Rattle.std.proofs.Common.{◌≡◌, ◌≢◌, ℕ, ◌+◌, ◌<◌, length, get_or}
use Rattle.call_cut.proofs.table.write.Given as goal

abbrev pub invariant-loop-i : goal.invariant-loop-i
invariant-loop-i l = record {
  long : length l.table.items ≡ length l.fn.table.items;
  written : (k : ℕ) → k < l.i → get_or l.table.items (get_or l.places k 0 + l.shift) 0 ≡ get_or l.values k 0;
  others : (v : ℕ) → ((k : ℕ) → k < l.i → v ≢ get_or l.places k 0 + l.shift) → get_or l.table.items v 0 ≡ get_or l.fn.table.items v 0;
}
