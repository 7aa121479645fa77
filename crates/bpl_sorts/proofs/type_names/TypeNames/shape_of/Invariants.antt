use Rattle.std.proofs.Common.{◌≡◌, ◌-◌, length}
use Rattle.bpl_sorts.specs.TypeNames.{type_after, type_over}
use Rattle.bpl_sorts.specs.TypeShapes.{walk_type}
use Rattle.bpl_sorts.proofs.type_names.TypeNames.shape_of.Given as goal

abbrev pub invariant-loop-round : goal.invariant-loop-round
invariant-loop-round l = walk_type (type_after l.self (length l.self - l.round)) l.now ≡ type_over l.self l.of
