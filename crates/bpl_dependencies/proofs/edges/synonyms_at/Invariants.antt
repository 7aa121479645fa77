use Rattle.std.proofs.Common.{◌≡◌, ◌++◌, map, drop, Some}
use Rattle.bpl_dependencies.specs.AppliedView.{texts_seen}
use Rattle.bpl_dependencies.specs.Reach.{synonyms_among}
use Rattle.bpl_dependencies.proofs.edges.synonyms_at.Given as goal

abbrev pub invariant-loop-name : goal.invariant-loop-name
invariant-loop-name l = map Some l.positions.items ++ synonyms_among l.table (texts_seen (drop l.name-index l.names)) ≡ synonyms_among l.table (texts_seen l.names)
