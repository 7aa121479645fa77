use Rattle.std.proofs.Common.{◌≡◌, ◌++◌, map, take}
use Rattle.bpl_model.proofs.variables.push_global_sorts.Given as goal

abbrev pub invariant-loop-global : goal.invariant-loop-global
invariant-loop-global l = l.sorts.items ≡ l.fn.sorts.items ++ map (λ g. g.sort) (take l.global-index l.globals)
