use Rattle.std.proofs.Common.{◌++◌, ◌+◌, length, drop, sym, ap, refl, ◌∙◌, arith}
use Rattle.std.proofs.lemmas.List.{append-nil, drop_all}
use Rattle.bpl_model.specs.Nodes.{stmts_nodes}
use Rattle.bpl_model.specs.StmtView.{stmts_of}
use Rattle.bpl_model.specs.Cut.{append, cut_stmt, cut_list}
use Rattle.call_cut.proofs.BodyCuts.{append_none, next_is, stmts_step, own_step}
use Rattle.call_cut.proofs.body.+cut.Goals as goal

pub cut_list-loop-stmt-preserved : goal.cut_list-loop-stmt-preserved
cut_list-loop-stmt-preserved t c =
    let m = c.args.parts.now in
    let n = c.args.first + length c.loop-stmt.variables.own.items in
    let s = c.stmt-item.result in
    let k = c.loop-stmt.stmt-index in
    let rest = drop (k + 1) c.args.stmts.now in
    let ahead = next_is c.args.stmts.now k s c.loop-stmt-test.true c.stmt-item.is in
    let same = ap (λ ss. stmts_nodes (stmts_of ss)) ahead in
    let before = c.loop-stmt.invariant.less in record {
      stmts = (λ i. append (stmts_of (c.in_ok-append.ensures.items i)) (cut_list m (c.args.first + length (c.in_ok-cut.ensures.own i)) (stmts_of rest)).0)
          ∙ (stmts_step m c.args.first c.loop-stmt.variables.own.items s (stmts_of rest) c.loop-stmt.cuts.items c.in_ok-cut.cut.items (cut_stmt m n s).1 c.in_ok-cut.ensures.stmts refl
          ∙ ((λ i. append (stmts_of c.loop-stmt.cuts.items) (cut_list m n (stmts_of (sym ahead i))).0) ∙ c.loop-stmt.invariant.stmts));
      own = (λ i. c.in_ok-cut.ensures.own i ++ (cut_list m (c.args.first + length (c.in_ok-cut.ensures.own i)) (stmts_of rest)).1)
          ∙ (own_step m c.args.first c.loop-stmt.variables.own.items s (stmts_of rest) (cut_stmt m n s).1 refl
          ∙ ((λ i. c.loop-stmt.variables.own.items ++ (cut_list m n (stmts_of (sym ahead i))).1) ∙ c.loop-stmt.invariant.own));
      between = c.in_ok-cut.ensures.between;
      less = omega (arith, same, before);
    }

pub cut_list-returns-clause-stmts : goal.cut_list-returns-clause-stmts
cut_list-returns-clause-stmts t c =
    let gone = drop_all c.loop-stmt.stmt-index c.args.stmts.now c.loop-stmt-test.false in
    sym (append_none (stmts_of c.loop-stmt.cuts.items))
    ∙ ((λ i. append (stmts_of c.loop-stmt.cuts.items) (cut_list c.args.parts.now (c.args.first + length c.loop-stmt.variables.own.items) (stmts_of (sym gone i))).0) ∙ c.loop-stmt.invariant.stmts)

pub cut_list-returns-clause-own : goal.cut_list-returns-clause-own
cut_list-returns-clause-own t c =
    let gone = drop_all c.loop-stmt.stmt-index c.args.stmts.now c.loop-stmt-test.false in
    sym (append-nil c.loop-stmt.variables.own.items)
    ∙ ((λ i. c.loop-stmt.variables.own.items ++ (cut_list c.args.parts.now (c.args.first + length c.loop-stmt.variables.own.items) (stmts_of (sym gone i))).1) ∙ c.loop-stmt.invariant.own)
