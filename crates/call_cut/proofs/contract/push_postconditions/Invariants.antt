use Rattle.std.proofs.Common.{◌≡◌, ◌++◌, map, drop}
use Rattle.logic_core.specs.Renamed.{new_number}
use Rattle.logic_core.specs.Variables.{renamed}
use Rattle.bpl_model.specs.Module.{assume}
use Rattle.bpl_model.specs.Contract.{postconditions}
use Rattle.call_cut.proofs.contract.push_postconditions.Given as goal

-- the statements so far, and then those of the clauses that are ahead
abbrev pub invariant-loop-spec : goal.invariant-loop-spec
invariant-loop-spec l =
    l.stmts.items ++ map (λ E. assume l.at (renamed (new_number l.table) E)) (postconditions (drop l.spec-index l.specs))
    ≡ l.fn.stmts.items ++ map (λ E. assume l.at (renamed (new_number l.table) E)) (postconditions l.specs)
