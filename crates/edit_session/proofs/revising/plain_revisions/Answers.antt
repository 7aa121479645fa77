use Rattle.std.proofs.lemmas.Result.{IfOk-weaker}
use Rattle.user_types.specs.Erased.{erased}
use Rattle.edit_session.proofs.PlainNames.{plain_declares}
use Rattle.edit_session.proofs.ReadRevisions.{names_alike, plain_revisions}
use Rattle.edit_session.proofs.revising.plain_revisions.Goals as goal

pub revisions_at-requires-clause-names : goal.revisions_at-requires-clause-names
revisions_at-requires-clause-names c = let ds = c.args.decls.now in names_alike ds (erased ds) c.in_ok-names.names (plain_declares ds c.requires.plain).0 c.in_ok-names.ensures

pub returns : goal.returns
returns c = IfOk-weaker c.revisions_at.result _ _ (λ o h. plain_revisions c.args.decls.now c.args.replacements.now (λ v. v.items) o c.requires.plain h) c.revisions_at.ensures
