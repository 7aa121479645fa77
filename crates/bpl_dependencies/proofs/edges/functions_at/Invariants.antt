use Rattle.std.proofs.Common.{◌≡◌, ◌++◌, map, drop, Some}
use Rattle.bpl_dependencies.specs.AppliedView.{texts_seen}
use Rattle.bpl_dependencies.specs.Reach.{functions_among}
use Rattle.bpl_dependencies.proofs.edges.functions_at.Given as goal

abbrev pub invariant-loop-name : goal.invariant-loop-name
invariant-loop-name l = map Some l.positions.items ++ functions_among l.table (texts_seen (drop l.name-index l.names)) ≡ functions_among l.table (texts_seen l.names)
