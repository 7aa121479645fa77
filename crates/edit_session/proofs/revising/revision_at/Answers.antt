use Rattle.std.proofs.lemmas.Result.{IfOk-weaker}
use Rattle.user_types.specs.Erased.{erased}
use Rattle.edit_session.proofs.ReadRevisions.{in_order, one_revision}
use Rattle.edit_session.proofs.revising.revision_at.Goals as goal

pub revision-requires-clause-order : goal.revision-requires-clause-order
revision-requires-clause-order c = in_order (erased c.args.decls.now) c.args.names.now c.requires.names

pub returns-then-branch : goal.returns-then-branch
returns-then-branch c =
    IfOk-weaker c.revision.result _ _ (λ o h. one_revision c.args.decls.now c.args.replacement.now c.index-decls-at.result c.args.names.now c.args.count o c.requires.names c.requires.count c.requires.there c.index-decls-at.is
    (c.in_ok-is_revision.ensures c.if-branch.true) h) c.revision.ensures.new
