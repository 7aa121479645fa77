use Rattle.std.proofs.Common.{◌≡◌}
use Rattle.bpl_sorts.specs.TypeShapes.{nested, base_type}
use Rattle.bpl_sorts.specs.TypesView.{ty_seen}
use Rattle.bpl_sorts.proofs.type_names.Shape.ty.Given as goal

abbrev pub invariant-loop-depth : goal.invariant-loop-depth
invariant-loop-depth l = ty_seen l.made ≡ nested l.depth (base_type l.fn.self.base)
