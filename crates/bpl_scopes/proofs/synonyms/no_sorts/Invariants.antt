use Rattle.std.proofs.Common.{◌≡◌, map, take, None}
use Rattle.bpl_scopes.specs.KnownSorts.{shapes_seen}
use Rattle.bpl_scopes.proofs.synonyms.no_sorts.Given as goal

abbrev pub invariant-loop-entry : goal.invariant-loop-entry
invariant-loop-entry l = shapes_seen l.sorts.items ≡ map (λ e. None) (take l._entry-index l.entries)
