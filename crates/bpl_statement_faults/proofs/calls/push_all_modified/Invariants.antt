use Rattle.std.proofs.Common.{◌≡◌, ◌++◌, drop}
use Rattle.bpl_statement_faults.specs.CallView.{modified_where}
use Rattle.bpl_statement_faults.proofs.calls.push_all_modified.Given as goal

abbrev pub invariant-loop-clause : goal.invariant-loop-clause
invariant-loop-clause l = l.modified ++ modified_where l.table l.hidden (drop l.clause-index l.clauses) ≡ l.fn.modified ++ modified_where l.table l.hidden l.clauses
