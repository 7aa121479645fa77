use Rattle.std.proofs.Common.{◌≡◌}
use Rattle.user_types.specs.Erased.{maps_over}
use Rattle.user_types.proofs.readings.maps_over.Given as goal

abbrev pub invariant-loop-depth : goal.invariant-loop-depth
invariant-loop-depth l = l.made ≡ maps_over l.depth l.at
