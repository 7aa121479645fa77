use Rattle.std.proofs.Common.{◌+◌, ◌++◌, refl, ap, sym, ◌∙◌, drop, arith}
use Rattle.bpl_model.specs.Nodes.{stmts_nodes}
use Rattle.bpl_model.specs.StmtView.{stmts_of}
use Rattle.bpl_blocks.specs.Targets.{sets, list_sets}
use Rattle.bpl_blocks.proofs.AssumedClauses.{next_is, behind_more, behind_all}
use Rattle.bpl_blocks.proofs.targets.+sets.Goals as goal

pub push_list_sets-loop-stmt-preserved : goal.push_list_sets-loop-stmt-preserved
push_list_sets-loop-stmt-preserved t c =
    let ss = c.args.stmts.now in
    let k = c.loop-stmt.stmt-index in
    let s = c.stmt-item.result in
    let same = ap (λ ss. stmts_nodes (stmts_of ss)) (next_is ss k s c.loop-stmt-test.true c.stmt-item.is) in
    let before = c.loop-stmt.invariant.less in record {
      same = ap (λ vs. vs ++ list_sets (stmts_of (drop (k + 1) ss))) c.in_ok-push_sets.ensures
          ∙ (sym (behind_more (λ ss. list_sets (stmts_of ss)) ss k s c.loop-stmt.set.items (sets s) c.loop-stmt-test.true c.stmt-item.is refl) ∙ c.loop-stmt.invariant.same);
      less = omega (arith, same, before);
    }

pub push_list_sets-returns : goal.push_list_sets-returns
push_list_sets-returns t c =
    behind_all (λ ss. list_sets (stmts_of ss)) c.args.stmts.now c.loop-stmt.stmt-index c.loop-stmt.set.items _ c.loop-stmt-test.false refl c.loop-stmt.invariant.same
