use Rattle.std.proofs.Common.{◌≡◌, ◌<◌, length}
use Rattle.std.specs.Prelude.{ℕ}
use Rattle.logic_core.specs.Renamed.{new_number}
use Rattle.logic_core.specs.Variables.{place_in}
use Rattle.obligation_text.proofs.canonical.places.Given as goal

-- the places of the numbers so far
abbrev pub invariant-loop-number : goal.invariant-loop-number
invariant-loop-number l = record {
  count : length l.places.items ≡ l.number;
  each : (k : ℕ) → k < l.number → new_number l.places.items k ≡ place_in l.order k;
}
