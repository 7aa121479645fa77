use Rattle.std.proofs.Common.{◌≡◌, drop}
use Rattle.bv_base.specs.Text.{is_among}
use Rattle.bpl_scopes.specs.Scopes.{bound_names}
use Rattle.bpl_scopes.specs.KnownSorts.{bounds_seen}
use Rattle.bpl_scopes.proofs.hidden.is_bound.Given as goal

abbrev pub invariant-loop-bound : goal.invariant-loop-bound
invariant-loop-bound l = is_among (bound_names (bounds_seen (drop l.bound-index l.bounds))) l.name ≡ is_among (bound_names (bounds_seen l.bounds)) l.name
