use Rattle.std.proofs.Common.{◌≡◌, ◌++◌, ◌&&◌, not, filter, take}
use Rattle.bv_base.specs.Text.{is_among}
use Rattle.bpl_scopes.specs.Scopes.{texts_of, entity_of}
use Rattle.bpl_statement_faults.specs.StmtFaults.{is_global}
use Rattle.bpl_statement_faults.proofs.calls.push_modified.Given as goal

abbrev pub invariant-loop-name : goal.invariant-loop-name
invariant-loop-name l = l.modified ≡ l.fn.modified ++ filter (λ n. is_global (entity_of l.table n) && not (is_among l.hidden n)) (texts_of (take l.name-index l.names))
