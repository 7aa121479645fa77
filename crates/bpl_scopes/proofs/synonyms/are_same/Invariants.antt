use Rattle.std.proofs.Common.{◌≡◌, take}
use Rattle.bpl_scopes.specs.KnownSorts.{shapes_seen}
use Rattle.bpl_scopes.proofs.synonyms.are_same.Given as goal

abbrev pub invariant-loop-i : goal.invariant-loop-i
invariant-loop-i l = shapes_seen (take l.i l.mine) ≡ shapes_seen (take l.i l.others)
