use Rattle.std.proofs.Common.{◌∙◌, sym, ap, subst}
use Rattle.fault_text.specs.FaultView.{SourcesAreShort}
use Rattle.request_text.specs.RequestView.{request_view}
use Rattle.program_edits.specs.Edited.{IsEdited, edited}
use Rattle.program_edits.specs.Refusals.{IsRefused}
use Rattle.edit_session.specs.Kept.{Session}
use Rattle.edit_session.proofs.Answering.{refused_goes}
use Rattle.edit_session.proofs.EditedWritten.{edited_written}
use Rattle.edit_session.proofs.session.Session.edit_any.Goals as goal

pub take-requires-clause-short : goal.take-requires-clause-short
take-requires-clause-short g c = c.in-Ok.ensures.sources (subst SourcesAreShort (sym c.decls.ensures.decls) c.decls.ensures.short)

pub take-requires-clause-written : goal.take-requires-clause-written
take-requires-clause-written g c = edited_written c.self.inside.opened.decls c.in-Ok.decls.items (request_view c.args.request.now) (subst (λ ds. IsEdited ds (request_view c.args.request.now) (edited c.in-Ok.decls.items)) c.decls.ensures.decls c.in-Ok.ensures.ok) c.decls.ensures.written

pub returns-in-Ok-clause-answered : goal.returns-in-Ok-clause-answered
returns-in-Ok-clause-answered g c =
    let r = request_view c.args.request.now in
    c.take.ensures.answered r (subst (λ ds. IsEdited ds r (edited c.in-Ok.decls.items)) (c.decls.ensures.decls ∙ ap (λ (s : Session). s.state.decls) c.self.view_is) c.in-Ok.ensures.ok)

pub returns-in-Err-clause-answered : goal.returns-in-Err-clause-answered
returns-in-Err-clause-answered g c =
    let r = request_view c.args.request.now in
    refused_goes _ r c.in-Err.fault c.refusal.result c.refusal.ensures (subst (λ ds. IsRefused ds r c.in-Err.fault) (c.decls.ensures.decls ∙ ap (λ (s : Session). s.state.decls) c.self.view_is) c.in-Err.ensures.err)
