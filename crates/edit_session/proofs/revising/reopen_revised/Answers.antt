use Rattle.std.proofs.Common.{◌∙◌, ap, sym, subst, map}
use Rattle.obligation_text.specs.Asked.{key_of}
use Rattle.std.specs.Prelude.{IfSome}
use Rattle.body_revision.specs.Revision.{all_revised}
use Rattle.vc_build.specs.Rebuild.{built}
use Rattle.vc_rebuild.specs.Change.{IsChangedAt}
use Rattle.edit_session.specs.Revising.{AreRevisions}
use Rattle.edit_session.proofs.Programs.{procs_are, questions_by}
use Rattle.edit_session.proofs.Revised.{as_many_declared, each_put, forward_after, resolved_after, is_opened}
use Rattle.edit_session.proofs.Unchanged.{undone_none}
use Rattle.edit_session.proofs.revising.reopen_revised.Goals as goal

pub revisions_of-requires-clause-count : goal.revisions_of-requires-clause-count
revisions_of-requires-clause-count g c = c.count_decls-count.ensures.count ∙ as_many_declared c.args.decls.now c.args.typed.now c.requires.is_module

pub reopen_with-requires-clause-each : goal.reopen_with-requires-clause-each
reopen_with-requires-clause-each g c = each_put c.args.decls.now c.args.replacements.now c.in-Ok-Some.revisions.items c.args.typed.now c.requires.is_module (subst (λ o. IfSome o (λ v. AreRevisions c.args.decls.now c.args.replacements.now v.items)) c.in-Ok-Some.field-0-is c.in-Ok-Some.ensures)

pub reopen_with-requires-clause-forward : goal.reopen_with-requires-clause-forward
reopen_with-requires-clause-forward g c = forward_after c.args.decls.now c.args.replacements.now c.in-Ok-Some.revisions.items c.args.typed.now c.requires.is_module (subst (λ o. IfSome o (λ v. AreRevisions c.args.decls.now c.args.replacements.now v.items)) c.in-Ok-Some.field-0-is c.in-Ok-Some.ensures)

pub reopen_with-requires-clause-resolved : goal.reopen_with-requires-clause-resolved
reopen_with-requires-clause-resolved g c = resolved_after c.args.decls.now c.args.replacements.now c.in-Ok-Some.revisions.items c.args.typed.now c.requires.is_module (subst (λ o. IfSome o (λ v. AreRevisions c.args.decls.now c.args.replacements.now v.items)) c.in-Ok-Some.field-0-is c.in-Ok-Some.ensures) c.requires.written c.count_decls-count.ensures.few

pub reopen_with-requires-clause-changed : goal.reopen_with-requires-clause-changed
reopen_with-requires-clause-changed g c =
    let but = c.changed_alone-but.result in
    let m = c.args.typed.now in
    subst (λ bs. IsChangedAt but bs (all_revised m c.in-Ok-Some.revisions.items)) (sym c.requires.built) (subst (λ vs. IsChangedAt but (built m) (all_revised m vs)) c.as_slice.ensures.value c.changed_alone-but.ensures)

pub returns-in-Ok-Some-clause-is_module : goal.returns-in-Ok-Some-clause-is_module
returns-in-Ok-Some-clause-is_module g c =
    let opened = c.reopen_with in
    is_opened c.args.decls.now c.args.replacements.now c.in-Ok-Some.revisions.items c.args.typed.now c.requires.is_module (subst (λ o. IfSome o (λ v. AreRevisions c.args.decls.now c.args.replacements.now v.items)) c.in-Ok-Some.field-0-is c.in-Ok-Some.ensures) _ _ _ _ _ c.args.turns opened.new.typed c.args.kept.now.procs opened.new.kept.procs opened.result opened.ensures.revised opened.ensures.opened

pub reopen_with-requires-clause-goals : goal.reopen_with-requires-clause-goals
reopen_with-requires-clause-goals g c =
    c.requires.goals ∙ ap (map key_of) (sym (questions_by c.args.turns c.args.typed.now c.args.kept.now.procs (procs_are c.args.typed.now c.args.kept.now.procs c.requires.built)))

pub returns-in-Ok-None-clause-board : goal.returns-in-Ok-None-clause-board
returns-in-Ok-None-clause-board g c = undone_none _ _ _
