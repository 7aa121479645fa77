use Rattle.std.proofs.Common.{◌≡◌}
use Rattle.bpl_scopes.specs.KnownSorts.{sorts_at, shapes_seen}
use Rattle.bpl_scopes.proofs.synonyms.sorts_in_rounds.Given as goal

abbrev pub invariant-loop-k : goal.invariant-loop-k
invariant-loop-k l = shapes_seen l.sorts.items ≡ sorts_at l.table l.k
