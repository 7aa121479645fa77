use Rattle.std.proofs.Common.{◌≡◌, ◌++◌, map, drop}
use Rattle.logic_core.specs.Renamed.{new_number}
use Rattle.bpl_model.specs.Contract.{call_checks}
use Rattle.bpl_model.specs.Cut.{check}
use Rattle.call_cut.proofs.contract.push_checks.Given as goal

-- the statements so far, and then those of the clauses that are ahead
abbrev pub invariant-loop-spec : goal.invariant-loop-spec
invariant-loop-spec l =
    l.stmts.items ++ map (check (new_number l.table) l.at) (call_checks l.at l.k (drop l.spec-index l.specs))
    ≡ l.fn.stmts.items ++ map (check (new_number l.table) l.at) (call_checks l.at 0 l.specs)
