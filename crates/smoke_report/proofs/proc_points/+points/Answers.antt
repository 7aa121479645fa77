use Rattle.std.proofs.Common.{◌≡◌, ◌∙◌, ◌+◌, ◌++◌, ap, sym, arith, drop, length}
use Rattle.std.proofs.lemmas.List.{length-append}
use Rattle.bpl_model.specs.Nodes.{stmts_nodes}
use Rattle.bpl_model.specs.StmtView.{stmts_of}
use Rattle.smoke_report.specs.Points.{points_in, points_within}
use Rattle.smoke_report.proofs.Steps.{next_is, spots_next}
use Rattle.smoke_report.proofs.proc_points.+points.Goals as goal

pub add_within-loop-stmt-preserved : goal.add_within-loop-stmt-preserved
add_within-loop-stmt-preserved t c =
    let chain = c.args.chain in
    let before = c.loop-stmt.spots.items in
    let after = c.add_in.new.spots.items in
    let s = c.stmt-item.result in
    let rest = drop (c.loop-stmt.stmt-index + 1) c.args.stmts.now in
    let ahead = next_is c.args.stmts.now c.loop-stmt.stmt-index s c.loop-stmt-test.true c.stmt-item.is in
    let added : after ≡ before ++ points_in chain s = c.in_ok-add_in.ensures in
    let nodes = ap (λ ss. stmts_nodes (stmts_of ss)) ahead in
    let less = c.loop-stmt.invariant.less in
    let grown = c.loop-stmt.invariant.grown in
    let longer = ap length added in
    record {
      same = (λ i. added i ++ points_within chain (stmts_of rest)) ∙ (sym (spots_next before chain s rest) ∙ ((λ i. before ++ points_within chain (stmts_of (sym ahead i))) ∙ c.loop-stmt.invariant.same));
      grown = omega (arith, longer, length-append before (points_in chain s), grown);
      less = omega (arith, nodes, less);
    }
