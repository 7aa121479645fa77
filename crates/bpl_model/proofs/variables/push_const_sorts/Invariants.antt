use Rattle.std.proofs.Common.{◌≡◌, ◌++◌, map, take}
use Rattle.bpl_model.proofs.variables.push_const_sorts.Given as goal

abbrev pub invariant-loop-constant : goal.invariant-loop-constant
invariant-loop-constant l = l.sorts.items ≡ l.fn.sorts.items ++ map (λ c. c.sort) (take l.constant-index l.consts)
