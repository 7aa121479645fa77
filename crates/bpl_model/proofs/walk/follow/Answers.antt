use Rattle.std.proofs.Common.{◌≡◌, ◌∙◌, ◌+◌, drop, ap, sym, get_or}
use Rattle.std.specs.List.{flat_map}
use Rattle.bpl_model.specs.Marking.{mark_all}
use Rattle.bpl_model.specs.Walk.{on, rows_of, text_at}
use Rattle.bpl_model.proofs.Marks.{follow_step}
use Rattle.bpl_model.proofs.walk.follow.Goals as goal

pub loop-r-preserved : goal.loop-r-preserved
loop-r-preserved c =
    let first : c.mark_all.new.self ≡ mark_all c.loop-r.marking (text_at c.args.texts.now (get_or c.args.from.now c.loop-r.r-index 0)).contract_leads =
    c.in_ok-mark_all.ensures ∙ ap (mark_all c.loop-r.marking) c.contract_leads_at.ensures in
    ap (λ s. mark_all s (flat_map (on c.args.texts.now (rows_of c.args.rows.now)) (drop (c.loop-r.r-index + 1) c.args.from.now))) (c.in_ok-mark_all-2.ensures ∙ (λ i. mark_all (first i) (c.row_at.ensures i)))
    ∙ (sym (follow_step c.args.texts.now (rows_of c.args.rows.now) c.args.from.now c.loop-r.r-index c.loop-r.marking c.loop-r-test.true) ∙ c.loop-r.invariant)
