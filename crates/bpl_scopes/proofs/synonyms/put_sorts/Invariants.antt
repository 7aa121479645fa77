use Rattle.bpl_scopes.specs.KnownSorts.{sorts_at, shapes_seen}
use Rattle.bpl_scopes.specs.Guessed.{IsUnder}
use Rattle.bpl_scopes.proofs.synonyms.put_sorts.Given as goal

-- what is there so far is there after as many rounds
abbrev pub invariant-loop-i : goal.invariant-loop-i
invariant-loop-i l = IsUnder (shapes_seen l.sorts.items) (sorts_at l.table l.i)
