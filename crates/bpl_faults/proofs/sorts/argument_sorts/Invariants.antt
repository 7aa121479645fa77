use Rattle.std.proofs.Common.{◌≡◌, take}
use Rattle.bpl_scopes.specs.Sorts.{argument_sorts}
use Rattle.bpl_scopes.specs.KnownSorts.{shapes_seen}
use Rattle.bpl_faults.proofs.sorts.argument_sorts.Given as goal

abbrev pub invariant-loop-argument : goal.invariant-loop-argument
invariant-loop-argument l = shapes_seen l.sorts.items ≡ argument_sorts l.types (take l.argument-index l.ins)
