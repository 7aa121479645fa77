use Rattle.std.proofs.Common.{◌≡◌, map, drop}
use Rattle.bpl_model.specs.Module.{Const}
use Rattle.bpl_model.specs.Names.{with_names}
use Rattle.bpl_model.proofs.declarations.put_constants.Given as goal

-- the names that are ahead
abbrev pub invariant-loop-constant : goal.invariant-loop-constant
invariant-loop-constant l = with_names l.names (map (λ (x : Const). x.name) (drop l.constant-index l.constants)) ≡ with_names l.fn.names (map (λ (x : Const). x.name) l.constants)
