use Rattle.std.proofs.Common.{◌≡◌, ◌∙◌, ap, sym, arith, drop-cons}
use Rattle.std.proofs.lemmas.Grind.{common_steps}
use Rattle.std.proofs.lemmas.List.{at_drop_all}
use Rattle.bpl_model.specs.Module.{if_else}
use Rattle.bpl_model.specs.StmtView.{stmts_of, stmt_of}
use Rattle.bpl_model.specs.Cut.{append}
use Rattle.smoke_report.specs.Put.{count_in, count_within, put_within}
use Rattle.smoke_report.proofs.Counts.{count_if}
use Rattle.smoke_report.proofs.Lists.{append_none}
use Rattle.smoke_report.proofs.Steps.{put_next, count_more}
use Rattle.smoke_report.proofs.put.+put.Goals as goal

pub put_within-loop-stmt-preserved : goal.put_within-loop-stmt-preserved
put_within-loop-stmt-preserved t c = grind (arith, common_steps, put_next, count_more, drop-cons)

pub put_within-returns-clause-put : goal.put_within-returns-clause-put
put_within-returns-clause-put t c =
    let put = stmts_of c.loop-stmt.put.items in
    sym (append_none put)
    ∙ (sym (at_drop_all (λ ss. append put (put_within c.args.mark c.loop-stmt.left (stmts_of ss))) c.args.stmts.now c.loop-stmt.stmt-index c.loop-stmt-test.false) ∙ c.loop-stmt.invariant.same)

pub put_in-returns-in_ok-second-in-If-clause-left : goal.put_in-returns-in_ok-second-in-If-clause-left
put_in-returns-in_ok-second-in-If-clause-left t c =
    let ss = stmts_of c.in-If.first.items in
    let ts = stmts_of c.in-If.second.items in
    let shape : c.args.stmt.now ≡ if_else c.in-If.at c.in-If.has_else c.in-If.guard ss ts = sym c.stmt.view_is ∙ ap stmt_of c.in-If.is in
    let count = ap count_in shape ∙ count_if c.in-If.at c.in-If.has_else c.in-If.guard ss ts in
    let same_first = ap (λ xs. count_within (stmts_of xs)) c.deref.ensures.value in
    let same_second = ap (λ xs. count_within (stmts_of xs)) c.deref-in-If.ensures.value in
    let first = c.in_ok-first-in-If.ensures.left in
    let second = c.in_ok-second-in-If.ensures.left in
    omega (arith, count, same_first, same_second, first, second)
