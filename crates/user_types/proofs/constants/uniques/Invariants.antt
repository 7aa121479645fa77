use Rattle.std.proofs.Common.{◌≡◌, flat_map, take}
use Rattle.user_types.specs.Erased.{uniques_in}
use Rattle.user_types.specs.Views.{uniques_seen}
use Rattle.user_types.proofs.constants.uniques.Given as goal

abbrev pub invariant-loop-decl : goal.invariant-loop-decl
invariant-loop-decl l = uniques_seen l.found.items ≡ flat_map (λ d. uniques_in l.table d.body) (take l.decl-index l.decls)
