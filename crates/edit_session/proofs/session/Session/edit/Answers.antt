use Rattle.std.proofs.Common.{◌∙◌, sym, ap, subst}
use Rattle.std.specs.Prelude.{IfSome}
use Rattle.canonical_text.specs.RoundTrip.{AreWrittenDecls}
use Rattle.request_text.specs.RequestView.{request_view}
use Rattle.program_edits.specs.Edited.{IsEdited, edited}
use Rattle.program_edits.specs.Refusals.{IsRefused}
use Rattle.program_edits.specs.Replaced.{with_replacements}
use Rattle.edit_session.specs.Kept.{Session}
use Rattle.edit_session.proofs.Answering.{without_memory, refused_goes}
use Rattle.edit_session.proofs.EditedWritten.{edited_written, numbers_stay}
use Rattle.edit_session.proofs.session.Session.edit.Goals as goal

pub replacements_of-requires-clause-numbered : goal.replacements_of-requires-clause-numbered
replacements_of-requires-clause-numbered g c = numbers_stay 0 c.decls.result.now (subst (AreWrittenDecls 0) (sym c.decls.ensures.decls) c.decls.ensures.written)

pub replace-requires-clause-written : goal.replace-requires-clause-written
replace-requires-clause-written g c =
    let old = c.decls.result.now in
    let rs = c.in-Ok-Some.replacements.items in
    let request = request_view c.args.request.now in
    let is = subst (λ o. IfSome o (λ v. IsEdited old request (edited (with_replacements old v.items)))) c.in-Ok-Some.field-0-is c.in-Ok-Some.ensures.edited in
    let written = edited_written old (with_replacements old rs) request is (subst (AreWrittenDecls 0) (sym c.decls.ensures.decls) c.decls.ensures.written) in
    subst (λ ds. AreWrittenDecls 0 (with_replacements ds rs)) (c.decls.ensures.decls ∙ ap (λ (s : Session). s.state.decls) c.self.view_is) written

pub returns-in-Ok-Some-clause-answered : goal.returns-in-Ok-Some-clause-answered
returns-in-Ok-Some-clause-answered g c =
    let old = c.decls.result.now in
    let rs = c.in-Ok-Some.replacements.items in
    let request = request_view c.args.request.now in
    let is = subst (λ o. IfSome o (λ v. IsEdited old request (edited (with_replacements old v.items)))) c.in-Ok-Some.field-0-is c.in-Ok-Some.ensures.edited in
    c.replace.ensures.answered request (subst (λ ds. IsEdited ds request (edited (with_replacements ds rs))) (c.decls.ensures.decls ∙ ap (λ (s : Session). s.state.decls) c.self.view_is) is)

pub returns-in-Err-clause-answered : goal.returns-in-Err-clause-answered
returns-in-Err-clause-answered g c =
    let r = request_view c.args.request.now in
    refused_goes _ r c.in-Err.fault c.refusal.result c.refusal.ensures (subst (λ ds. IsRefused ds r c.in-Err.fault) (c.decls.ensures.decls ∙ ap (λ (s : Session). s.state.decls) c.self.view_is) c.in-Err.ensures.refused)

pub returns-then-not-has_short_texts-clause-answered : goal.returns-then-not-has_short_texts-clause-answered
returns-then-not-has_short_texts-clause-answered g c = without_memory _ _
