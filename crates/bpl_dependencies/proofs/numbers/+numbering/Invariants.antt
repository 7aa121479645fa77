use Rattle.std.proofs.Common.{◌≡◌, ◌+◌, ◌*◌, drop, fold}
use Rattle.bpl_scopes.specs.KnownSorts.{names_in}
use Rattle.bpl_scopes.specs.Functions.{numbered}
use Rattle.bpl_dependencies.specs.NamesAt.{names_at}
use Rattle.bpl_dependencies.proofs.numbers.+numbering.Given as goal

abbrev pub decreases-number : goal.decreases-number
decreases-number l = 2 * l.room

abbrev pub decreases-number_each : goal.decreases-number_each
decreases-number_each l = 2 * l.room + 1

abbrev pub invariant-number_each-loop-position : goal.invariant-number_each-loop-position
invariant-number_each-loop-position l = fold (numbered l.table l.room) l.order (names_at (names_in l.table) (drop l.position-index l.positions)) ≡ fold (numbered l.table l.room) l.fn.order (names_at (names_in l.table) l.positions)
