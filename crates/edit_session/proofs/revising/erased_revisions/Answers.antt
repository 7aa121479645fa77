use Rattle.std.proofs.Common.{subst}
use Rattle.user_types.specs.Erased.{as_integers, erased}
use Rattle.body_revision.specs.Names.{AreNamesOf}
use Rattle.body_revision.specs.ReadHeads.{heads_from}
use Rattle.body_revision.proofs.HeadNames.{heads_declare}
use Rattle.edit_session.proofs.ReadRevisions.{names_alike}
use Rattle.edit_session.proofs.revising.erased_revisions.Goals as goal

pub revisions_at-requires-clause-names : goal.revisions_at-requires-clause-names
revisions_at-requires-clause-names c =
    let ds = c.args.decls.now in
    let n = c.in_ok-names.names in
    names_alike (heads_from as_integers 0 ds) (erased ds) n (heads_declare ds).0 (subst (λ hs. AreNamesOf hs n) c.in_ok-heads.ensures (rw c.deref.ensures.value at c.in_ok-names.ensures))
