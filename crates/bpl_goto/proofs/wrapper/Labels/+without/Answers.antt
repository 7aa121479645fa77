use Rattle.std.proofs.Common.{◌∙◌, ◌+◌, drop, sym, ap, arith}
use Rattle.bpl_model.specs.Nodes.{stmts_nodes}
use Rattle.bpl_model.specs.StmtView.{stmts_of}
use Rattle.bpl_goto.specs.Removed.{list_without}
use Rattle.bpl_goto.proofs.Loops.{next_is, list_step}
use Rattle.bpl_goto.proofs.wrapper.Labels.+without.Goals as goal

pub list_without-loop-stmt-preserved : goal.list_without-loop-stmt-preserved
list_without-loop-stmt-preserved t c =
    let N = c.args.self.now.named in
    let L = c.args.self.now.longest in
    let s = c.stmt-item.result in
    let rest = drop (c.loop-stmt.stmt-index + 1) c.args.stmts.now in
    let ahead = next_is c.args.stmts.now c.loop-stmt.stmt-index s c.loop-stmt-test.true c.stmt-item.is in
    let same = ap (λ ss. stmts_nodes (stmts_of ss)) ahead in
    let before = c.loop-stmt.invariant.less in record {
      same = (λ i. list_without N L (stmts_of (c.in_ok-push.ensures.items i)) (stmts_of rest))
          ∙ (list_step N L c.loop-stmt.done.items c.in_ok-done.done.items s c.in_ok-stmt_without.field-0 (stmts_of rest) c.in_ok-done.ensures c.in_ok-stmt_without.ensures
          ∙ ((λ i. list_without N L (stmts_of c.loop-stmt.done.items) (stmts_of (sym ahead i))) ∙ c.loop-stmt.invariant.same));
      less = omega (arith, same, before);
    }
