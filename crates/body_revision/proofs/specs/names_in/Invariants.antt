use Rattle.std.proofs.Common.{◌≡◌, take, flat_map}
use Rattle.bpl_faults.specs.Arguments.{names_seen}
use Rattle.bpl_scopes.specs.Scopes.{spec_names}
use Rattle.body_revision.proofs.specs.names_in.Given as goal

abbrev pub invariant-loop-spec : goal.invariant-loop-spec
invariant-loop-spec l = names_seen l.found.items ≡ flat_map spec_names (take l.spec-index l.specs)
