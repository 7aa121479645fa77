use Rattle.std.proofs.Common.{◌≡◌, refl, ◌∙◌, ◌+◌, ◌++◌, true, [], ◌∷◌, ap, sym, subst, arith, drop}
use Rattle.std.specs.Prelude.{OnOk, Some}
use Rattle.std.proofs.lemmas.List.{drop_all}
use Rattle.std.proofs.lemmas.Result.{on_ok_weaker}
use Rattle.bpl_model.specs.Nodes.{stmts_nodes}
use Rattle.bpl_model.specs.StmtView.{stmts_of}
use Rattle.bpl_blocks.specs.Targets.{loop_targets}
use Rattle.bpl_blocks.specs.Drawn.{anywhere, ended, with_list}
use Rattle.bpl_blocks.proofs.AssumedClauses.{next_is}
use Rattle.bpl_blocks.proofs.DrawnBlocks.{assumed, list_step, with_none, if_made_of, loop_made_of}
use Rattle.bpl_blocks.proofs.block.+blocks.Goals as goal

pub draw_list-loop-stmt-preserved : goal.draw_list-loop-stmt-preserved
draw_list-loop-stmt-preserved t c =
    let S = c.args.setting.now in
    let sc = c.loop-stmt.scopes in
    let d = c.loop-stmt.drawn in
    let s = c.stmt-item.result in
    let rest = drop (c.loop-stmt.stmt-index + 1) c.args.stmts.now in
    let ahead = next_is c.args.stmts.now c.loop-stmt.stmt-index s c.loop-stmt-test.true c.stmt-item.is in
    let same = ap (λ ss. stmts_nodes (stmts_of ss)) ahead in
    let before = c.loop-stmt.invariant.less in record {
      drawn = (λ i. with_list S (c.in_ok-draw_stmt.ensures.scopes i) (c.in_ok-draw_stmt.ensures.drawn i) (stmts_of rest))
          ∙ (list_step S sc d s (stmts_of rest) ∙ (ap (λ ys. with_list S sc d (stmts_of ys)) (sym ahead) ∙ c.loop-stmt.invariant.drawn));
      scopes = c.in_ok-draw_stmt.ensures.scopes ∙ c.loop-stmt.invariant.scopes;
      less = omega (arith, same, before);
    }

pub draw_list-returns-clause-drawn : goal.draw_list-returns-clause-drawn
draw_list-returns-clause-drawn t c =
    let S = c.args.setting.now in
    let gone = drop_all c.loop-stmt.stmt-index c.args.stmts.now c.loop-stmt-test.false in
    sym (with_none S c.loop-stmt.scopes c.loop-stmt.drawn) ∙ (ap (λ ys. with_list S c.loop-stmt.scopes c.loop-stmt.drawn (stmts_of ys)) (sym gone) ∙ c.loop-stmt.invariant.drawn)

pub draw_branch-returns-clause-drawn : goal.draw_branch-returns-clause-drawn
draw_branch-returns-clause-drawn t c =
    let S = c.args.setting.now in
    let ss = stmts_of c.args.stmts.now in
    subst (λ e. OnOk c.end.result (c.end.new.self ≡ e))
    (ap (ended c.draw_list.new.drawn) c.in_ok-one.ensures
    ∙ ap (λ d. ended d (c.args.next ∷ [])) (c.in_ok-draw_list.ensures.drawn ∙ ap (λ d. with_list S c.args.scopes.now d ss) c.in_ok-assume.ensures))
    c.end.ensures

pub draw_branch-returns-clause-scopes : goal.draw_branch-returns-clause-scopes
draw_branch-returns-clause-scopes t c = on_ok_weaker c.end.result (λ _. c.in_ok-draw_list.ensures.scopes) c.end.ensures

pub draw_if-returns-clause-scopes : goal.draw_if-returns-clause-scopes
draw_if-returns-clause-scopes t c = c.leave.ensures ∙ ap (drop 1) (c.in_ok-draw_branch-2.ensures.scopes ∙ (c.in_ok-draw_branch.ensures.scopes ∙ c.in_ok-enter.ensures))

pub draw_while-returns-clause-scopes : goal.draw_while-returns-clause-scopes
draw_while-returns-clause-scopes t c =
    on_ok_weaker c.draw_exit.result (λ _. c.leave.ensures ∙ ap (drop 1) (c.in_ok-draw_branch.ensures.scopes ∙ c.in_ok-enter.ensures)) c.draw_exit.ensures

pub draw_if-returns-clause-drawn : goal.draw_if-returns-clause-drawn
draw_if-returns-clause-drawn t c =
    if_made_of c.args.setting.now c.args.scopes.now c.args.drawn.now c.args.labels.now anywhere c.args.guard.now true (stmts_of c.args.first.now) (stmts_of c.args.second.now)
    c.in_ok-one_more.one_more c.in_ok-other.other c.in_ok-join.join c.in_ok-two.field-0.items c.in_ok-labels.labels.items c.in_ok-holds.holds c.in_ok-denied.denied
    c.enter.new.self c.draw_branch.new.scopes c.end.new.self c.draw_branch.new.drawn c.draw_branch-2.new.drawn
    (c.in_ok-one_more.ensures ∙ ap (λ k. k + 1) c.number.ensures)
    (c.in_ok-other.ensures ∙ ap (λ k. k + 1) (c.in_ok-sum.ensures ∙ ap (λ k. c.in_ok-one_more.one_more + k) c.in_ok-list_size.ensures))
    (c.in_ok-join.ensures ∙ ap (λ k. k + 1) (c.in_ok-sum-2.ensures ∙ ap (λ k. c.in_ok-other.other + k) c.in_ok-list_size-2.ensures))
    c.in_ok-labels.ensures c.in_ok-holds.ensures c.in_ok-denied.ensures c.in_ok-two.ensures
    c.in_ok-enter.ensures c.in_ok-draw_branch.ensures.scopes c.in_ok-end.ensures c.in_ok-draw_branch.ensures.drawn c.in_ok-draw_branch-2.ensures.drawn

pub draw_while-returns-clause-drawn : goal.draw_while-returns-clause-drawn
draw_while-returns-clause-drawn t c =
    let S = c.args.setting.now in
    let ss = stmts_of c.args.body.now in
    let d1 = c.end.new.self in
    let own : c.setting.inside.own ≡ S.own = ap (λ s. s.own) c.setting.view_is in
    let headed : c.add_head.new.self ≡ record d1 { blocks = d1.blocks ++ record { commands = []; next = c.in_ok-inside.inside ∷ c.in_ok-exit.exit ∷ []; head = Some (record { invariants = c.args.invariants.now; targets = loop_targets S.own ss }) } ∷ [] } =
    c.in_ok-add_head.ensures ∙ (λ i. record d1 { blocks = d1.blocks ++ record { commands = []; next = c.in_ok-two.ensures i; head = Some (record { invariants = (c.of.ensures ∙ c.in_ok-copy_invariants.ensures) i; targets = (c.of-2.ensures ∙ (c.in_ok-loop_targets.ensures ∙ ap (λ o. loop_targets o ss) own)) i }) } ∷ [] }) in
    subst (λ e. OnOk c.draw_exit.result (c.draw_exit.new.drawn ≡ e))
    (loop_made_of S c.args.scopes.now c.args.drawn.now c.args.labels.now anywhere c.args.guard.now c.args.invariants.now ss
    c.in_ok-number.number c.in_ok-inside.inside c.in_ok-exit.exit c.in_ok-behind.behind c.in_ok-labels.labels.items c.in_ok-holds.holds c.in_ok-fails.fails
    c.enter.new.self d1 c.add_head.new.self c.draw_branch.new.drawn (ended (assumed S c.draw_branch.new.drawn c.in_ok-fails.fails) (c.in_ok-behind.behind ∷ []))
    (c.in_ok-number.ensures ∙ ap (λ k. k + 1) c.number.ensures)
    c.in_ok-inside.ensures
    (c.in_ok-exit.ensures ∙ ap (λ k. k + 1) (c.in_ok-sum.ensures ∙ ap (λ k. c.in_ok-inside.inside + k) c.in_ok-list_size.ensures))
    c.in_ok-behind.ensures
    c.in_ok-labels.ensures c.in_ok-holds.ensures c.in_ok-fails.ensures
    c.in_ok-enter.ensures (c.in_ok-end.ensures ∙ ap (ended c.args.drawn.now) c.in_ok-one.ensures) headed c.in_ok-draw_branch.ensures.drawn refl)
    c.draw_exit.ensures
