use Rattle.std.proofs.Common.{◌≡◌, ◌++◌, take, map}
use Rattle.bpl_sorts.specs.TypeShapes.{shape_type}
use Rattle.bpl_sorts.specs.TypesView.{tys_seen}
use Rattle.bpl_sorts.proofs.variable_types.push_each.Given as goal

abbrev pub invariant-loop-name : goal.invariant-loop-name
invariant-loop-name l = tys_seen l.types.items ≡ tys_seen l.fn.types.items ++ map (λ n. shape_type l.shape) (take l._name-index l.names)
