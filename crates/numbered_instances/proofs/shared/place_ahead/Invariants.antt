use Rattle.std.proofs.Common.{◌≤◌}
use Rattle.numbered_instances.proofs.shared.place_ahead.Given as goal

abbrev pub invariant-loop-place : goal.invariant-loop-place
invariant-loop-place l = l.at ≤ l.place
