use Rattle.std.proofs.Common.{◌≡◌, map, take}
use Rattle.bpl_sorts.specs.TypeNames.{type_over}
use Rattle.bpl_sorts.specs.TypesView.{tys_seen}
use Rattle.bpl_sorts.proofs.function_types.argument_types.Given as goal

abbrev pub invariant-loop-argument : goal.invariant-loop-argument
invariant-loop-argument l = tys_seen l.types.items ≡ map (λ a. type_over l.known a.type) (take l.argument-index l.arguments)
