use Rattle.std.proofs.Common.{◌≡◌, map, take}
use Rattle.bpl_scopes.specs.Sorts.{sort_after}
use Rattle.bpl_scopes.specs.KnownSorts.{known_sort, shapes_seen}
use Rattle.bpl_scopes.proofs.synonyms.round.Given as goal

abbrev pub invariant-loop-entry : goal.invariant-loop-entry
invariant-loop-entry l = shapes_seen l.next.items ≡ map (λ e. sort_after l.table (known_sort l.table (shapes_seen l.sorts)) e.name.now) (take l.entry-index l.entries)
