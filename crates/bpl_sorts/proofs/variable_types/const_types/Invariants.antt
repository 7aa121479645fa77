use Rattle.std.proofs.Common.{◌≡◌, flat_map, take}
use Rattle.bpl_sorts.specs.DeclaredTypes.{const_types_in}
use Rattle.bpl_sorts.specs.TypesView.{tys_seen}
use Rattle.bpl_sorts.proofs.variable_types.const_types.Given as goal

abbrev pub invariant-loop-decl : goal.invariant-loop-decl
invariant-loop-decl l = tys_seen l.types.items ≡ flat_map (λ d. const_types_in l.known d.body) (take l.decl-index l.decls)
