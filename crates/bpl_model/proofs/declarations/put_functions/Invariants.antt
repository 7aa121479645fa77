use Rattle.std.proofs.Common.{◌≡◌, map, drop}
use Rattle.bpl_model.specs.Module.{Function}
use Rattle.bpl_model.specs.Names.{with_names}
use Rattle.bpl_model.proofs.declarations.put_functions.Given as goal

-- the names that are ahead
abbrev pub invariant-loop-function : goal.invariant-loop-function
invariant-loop-function l = with_names l.names (map (λ (x : Function). x.name) (drop l.function-index l.functions)) ≡ with_names l.fn.names (map (λ (x : Function). x.name) l.functions)
