use Rattle.std.proofs.Common.{◌∙◌, ◌+◌, drop, ap, sym}
use Rattle.std.specs.List.{flat_map}
use Rattle.bpl_model.specs.Marking.{mark_all}
use Rattle.bpl_model.specs.Walk.{text_at}
use Rattle.bpl_model.proofs.Marks.{leads_step}
use Rattle.bpl_model.proofs.declarations.mark_leads.Goals as goal

pub loop-d-preserved : goal.loop-d-preserved
loop-d-preserved c =
    ap (λ s. mark_all s (flat_map (λ d. (text_at c.args.texts.now d).leads) (drop (c.loop-d.d-index + 1) c.args.positions.now))) (c.in_ok-mark_all.ensures ∙ ap (mark_all c.loop-d.marking) c.leads_at.ensures)
    ∙ (sym (leads_step c.args.texts.now c.args.positions.now c.loop-d.d-index c.loop-d.marking c.loop-d-test.true) ∙ c.loop-d.invariant)
