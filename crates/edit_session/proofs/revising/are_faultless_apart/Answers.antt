use Rattle.std.proofs.Common.{subst}
use Rattle.std.proofs.lemmas.Result.{IfOk-weaker}
use Rattle.user_types.specs.Erased.{maps_over, told_apart}
use Rattle.body_revision.specs.Names.{AreNamesOf}
use Rattle.body_revision.specs.ReadHeads.{heads_from}
use Rattle.body_revision.proofs.HeadNames.{heads_declare}
use Rattle.edit_session.specs.Revising.{changes}
use Rattle.edit_session.proofs.ReadRevisions.{names_alike, faultless_alike}
use Rattle.edit_session.proofs.revising.are_faultless_apart.Goals as goal

pub returns : goal.returns
returns c =
    let ds = c.args.decls.now in
    let n = c.in_ok-names.names in
    let names = names_alike (heads_from maps_over 0 ds) (told_apart ds) n (heads_declare ds).1 (subst (λ hs. AreNamesOf hs n) c.in_ok-heads.ensures (rw c.deref.ensures.value at c.in_ok-names.ensures)) in
    IfOk-weaker c.are_faultless.result _ _ (λ b h. λ so. faultless_alike n.declarations (told_apart ds) (changes c.args.replacements.now) names.alike (h so)) c.are_faultless.ensures
