use Rattle.std.proofs.lemmas.Result.{IfOk-weaker, IfErr-weaker}
use Rattle.request_text.specs.RequestView.{request_view}
use Rattle.program_edits.proofs.Readings.{is_edited}
use Rattle.program_edits.proofs.Steps.{sources_stay_short}
use Rattle.program_edits.proofs.edits.edited.Goals as goal

pub returns-clause-ok : goal.returns-clause-ok
returns-clause-ok c = IfOk-weaker c.edited_exactly.result _ _ (λ v h. is_edited _ _ _ h) c.edited_exactly.ensures.ok

pub returns-clause-err : goal.returns-clause-err
returns-clause-err c = IfErr-weaker c.edited_exactly.result _ _ (λ fault h. (h.0, is_edited _ _ h.0 h.1, h.2)) c.edited_exactly.ensures.err

pub returns-clause-sources : goal.returns-clause-sources
returns-clause-sources c =
    IfOk-weaker c.edited_exactly.result _ _ (λ v h. sources_stay_short c.args.old.now v.items (request_view c.args.edit.now) (is_edited _ _ _ h) c.requires.short) c.edited_exactly.ensures.ok
