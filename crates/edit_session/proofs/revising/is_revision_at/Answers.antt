use Rattle.std.proofs.lemmas.Result.{IfOk-weaker}
use Rattle.edit_session.proofs.ReadRevisions.{revised_there}
use Rattle.edit_session.proofs.revising.is_revision_at.Goals as goal

pub returns : goal.returns
returns c =
    IfOk-weaker c.is_revision.result _ _ (λ b h so. revised_there c.args.decls.now c.args.replacement.now.at c.index-decls-at.result c.args.replacement.now.decl c.index-decls-at.is (h so)) c.is_revision.ensures
