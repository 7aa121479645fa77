use Rattle.std.proofs.lemmas.Result.{IfOk-weaker}
use Rattle.edit_session.proofs.ReadRevisions.{read_revisions}
use Rattle.edit_session.proofs.revising.read_revisions.Goals as goal

pub returns-then-branch : goal.returns-then-branch
returns-then-branch c = IfOk-weaker c.erased_revisions.result _ _ (λ o h. read_revisions c.args.decls.now c.args.replacements.now (λ v. v.items) o (c.in_ok-are_faultless_apart.ensures c.if-branch.true) h) c.erased_revisions.ensures
