use Rattle.std.proofs.Common.{◌∙◌}
use Rattle.std.proofs.lemmas.Result.{err_from_is_err_and}
use Rattle.user_types.specs.Erased.{erased}
use Rattle.edit_session.specs.Sums.{sums_on}
use Rattle.edit_session.proofs.Answering.{without_memory, sums_line}
use Rattle.edit_session.proofs.Sessions.{session}
use Rattle.edit_session.proofs.session.Session.sums.Goals as goal

pub returns-in_err-lines : goal.returns-in_err-lines
returns-in_err-lines g c = let p = err_from_is_err_and c.from_residual.result c.from_residual.ensures.1 in rw p.1 (without_memory _ _)

pub returns : goal.returns
returns g c =
    let i = c.self.inside in
    rw (← c.self.view_is) (sums_line (session i.turns _ i.opened.decls i.version _ _) i.opened.typed _ c.has_module.ensures
    (c.in_ok-lines.ensures ∙ (λ k. sums_on (c.typed.ensures k) (erased (c.program.ensures k)) (c.procs.ensures k))))
