use Rattle.std.proofs.Common.{◌≡◌, map, take}
use Rattle.bpl_scopes.specs.Sorts.{argument_sorts}
use Rattle.bpl_terms.specs.Terms.{sort_or_int}
use Rattle.bpl_resolve.proofs.arguments.argument_sorts.Given as goal

abbrev pub invariant-loop-argument : goal.invariant-loop-argument
invariant-loop-argument l = l.sorts.items ≡ map sort_or_int (argument_sorts l.types (take l.argument-index l.ins))
