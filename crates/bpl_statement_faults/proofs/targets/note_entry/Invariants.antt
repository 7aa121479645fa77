use Rattle.std.proofs.Common.{◌≡◌, drop}
use Rattle.bpl_scopes.specs.Fault.{earlier, first_fault}
use Rattle.bpl_ast.specs.ExprView.{exprs_of}
use Rattle.bpl_scopes.specs.Shape.{kind_seen}
use Rattle.bpl_faults.specs.ScopeView.{scope_seen}
use Rattle.bpl_statement_faults.specs.StmtFaults.{entry_at, entry_faults}
use Rattle.bpl_statement_faults.proofs.targets.note_entry.Given as goal

abbrev pub invariant-loop-index : goal.invariant-loop-index
invariant-loop-index l = record {
  found : earlier l.faults.first (first_fault (entry_faults (scope_seen l.scope) l.at (kind_seen l.sort) (exprs_of (drop l.index-index l.indices)))) ≡ earlier l.fn.faults.first (first_fault (entry_faults (scope_seen l.scope) l.at (kind_seen l.fn.map) (exprs_of l.indices)));
  sorts : entry_at (scope_seen l.scope) (kind_seen l.sort) (exprs_of (drop l.index-index l.indices)) ≡ entry_at (scope_seen l.scope) (kind_seen l.fn.map) (exprs_of l.indices);
}
