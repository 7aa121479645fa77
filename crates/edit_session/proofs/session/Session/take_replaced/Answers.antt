use Rattle.std.proofs.Common.{◌∙◌, ap}
use Rattle.std.proofs.lemmas.Result.{err_from_is_err_and}
use Rattle.program_edits.specs.Replaced.{with_replacements}
use Rattle.edit_session.specs.Kept.{Session}
use Rattle.edit_session.proofs.Answering.{without_memory, no_later}
use Rattle.edit_session.proofs.PutAgain.{edited_again}
use Rattle.edit_session.proofs.session.Session.take_replaced.Goals as goal

pub returns-in_err-decls-clause-answered : goal.returns-in_err-decls-clause-answered
returns-in_err-decls-clause-answered g c r edit =
    let p = err_from_is_err_and c.from_residual.result c.from_residual.ensures.1 in
    rw (p.1) (without_memory _ _)

pub returns-in_err-decls-clause-later : goal.returns-in_err-decls-clause-later
returns-in_err-decls-clause-later g c = no_later _

pub returns-clause-answered : goal.returns-clause-answered
returns-clause-answered g c r edit =
    let rs = c.args.replacements.items in
    let same = c.in_ok-decls.ensures ∙ ap (λ (s : Session). with_replacements s.state.decls rs) c.self.view_is in
    c.take.ensures.answered r (edited_again _ r _ _ same edit)
