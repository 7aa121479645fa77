use Rattle.std.proofs.Common.{◌≡◌, drop}
use Rattle.bv_base.specs.Text.{is_among}
use Rattle.bpl_dependencies.specs.AppliedView.{texts_seen}
use Rattle.bpl_dependencies.proofs.variables.is_any_of.Given as goal

abbrev pub invariant-loop-found : goal.invariant-loop-found
invariant-loop-found l = is_among (texts_seen (drop l.found-index l.names)) l.name ≡ is_among (texts_seen l.names) l.name
