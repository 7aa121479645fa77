use Rattle.std.proofs.Common.{◌≡◌, ◌++◌, drop, filter_map}
use Rattle.bpl_scopes.specs.CountsView.{counts_seen}
use Rattle.bpl_resolve.specs.Elaborate.{modified_number}
use Rattle.bpl_resolve.proofs.specs.modified_numbers.Given as goal

abbrev pub invariant-loop-name : goal.invariant-loop-name
invariant-loop-name l = l.numbers.items ++ filter_map (modified_number l.table (counts_seen l.counts)) (drop l.name-index l.names) ≡ filter_map (modified_number l.table (counts_seen l.counts)) l.names
