use Rattle.std.proofs.Common.{◌≡◌, ◌+◌, ◌*◌, ◌≤◌, ◌++◌, drop, length}
use Rattle.bpl_model.specs.Nodes.{stmt_nodes, stmts_nodes}
use Rattle.bpl_model.specs.StmtView.{stmts_of}
use Rattle.bpl_model.specs.Cut.{append, cut_list}
use Rattle.call_cut.specs.Table.{between_calls}
use Rattle.call_cut.proofs.body.+cut.Given as goal

abbrev pub decreases-cut_stmt : goal.decreases-cut_stmt
decreases-cut_stmt l = 2 * stmt_nodes l.stmt.now

abbrev pub decreases-cut_list : goal.decreases-cut_list
decreases-cut_list l = 2 * stmts_nodes (stmts_of l.stmts.now) + 1

-- the statements and variables so far, and then those for the statements that are ahead
abbrev pub invariant-cut_list-loop-stmt : goal.invariant-cut_list-loop-stmt
invariant-cut_list-loop-stmt l =
    let rest = cut_list l.parts (l.first + length l.variables.own.items) (stmts_of (drop l.stmt-index l.stmts)) in
    let all = cut_list l.parts (l.first + length l.fn.variables.own.items) (stmts_of l.stmts) in record {
      stmts : append (stmts_of l.cuts.items) rest.0 ≡ all.0;
      own : l.variables.own.items ++ rest.1 ≡ l.fn.variables.own.items ++ all.1;
      between : l.variables.table.items ≡ between_calls l.parts;
      less : stmts_nodes (stmts_of (drop l.stmt-index l.stmts)) ≤ stmts_nodes (stmts_of l.stmts);
    }
