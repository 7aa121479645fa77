use Rattle.std.proofs.Common.{◌≡◌, ◌∙◌, ap, sym, Some, None, slice_get}
use Rattle.bpl_scopes.specs.Positions.{first_at}
use Rattle.sha2.specs.Sha256.{sha256}
use Rattle.vc_rebuild.specs.Inside.{digests_of, found_from}
use Rattle.vc_rebuild.proofs.Digested.{none_with, some_with}
use Rattle.vc_rebuild.proofs.candidate.with_text.Goals as goal

pub returns-in-None : goal.returns-in-None
returns-in-None c =
    let procs = c.args.procs.now in
    let text = c.args.text.now in
    let none : first_at (sha256 text) (digests_of procs) ≡ None = sym (c.in-None.ensures ∙ (λ i. first_at (c.digest.ensures i) (c.requires i))) in
    sym (none_with text procs none)

pub returns-in-Some : goal.returns-in-Some
returns-in-Some c =
    let procs = c.args.procs.now in
    let text = c.args.text.now in
    let at = c.in-Some.at in
    let found : first_at (sha256 text) (digests_of procs) ≡ Some at = sym (c.in-Some.ensures ∙ (λ i. first_at (c.digest.ensures i) (c.requires i))) in
    c.first_from.ensures ∙ ap (found_from procs (slice_get procs at)) c.text.ensures ∙ some_with text procs at found
