use Rattle.std.proofs.Common.{◌≡◌, ◌∙◌, sym, ap, subst, arith, []}
use Rattle.std.proofs.lemmas.Grind.{common_steps}
use Rattle.bpl_goto.specs.Forward.{AllGoForward}
use Rattle.bpl_model.specs.Typed.{IsTypedModule}
use Rattle.bpl_model.specs.Module.{Module}
use Rattle.rebuild_laws.specs.Resolved.{IsResolved}
use Rattle.body_revision.specs.Revision.{HasPlaces, revised, all_revised}
use Rattle.vc_rebuild.specs.Change.{IsChangedAt}
use Rattle.edit_session.specs.Revising.{CanBePut}
use Rattle.edit_session.proofs.Revised.{last_put, last_revised, none_revised}
use Rattle.edit_session.proofs.revising.+reopen_with.Goals as goal

pub reopen-requires-clause-forward : goal.reopen-requires-clause-forward
reopen-requires-clause-forward g t c =
    let none : c.args.revisions.now.items ≡ [] = grind (arith, common_steps) in
    subst AllGoForward (none_revised c.args.typed.now c.args.revisions.now.items none) c.requires.forward

pub reopen-requires-clause-resolved : goal.reopen-requires-clause-resolved
reopen-requires-clause-resolved g t c =
    let none : c.args.revisions.now.items ≡ [] = grind (arith, common_steps) in
    subst IsResolved (none_revised c.args.typed.now c.args.revisions.now.items none) c.requires.resolved

pub reopen-requires-clause-changed : goal.reopen-requires-clause-changed
reopen-requires-clause-changed g t c =
    let none : c.args.revisions.now.items ≡ [] = grind (arith, common_steps) in
    subst (IsChangedAt c.args.but c.args.kept.now.procs) (none_revised c.args.typed.now c.args.revisions.now.items none) c.requires.changed

pub returns-in-Ok-clause-revised : goal.returns-in-Ok-clause-revised
returns-in-Ok-clause-revised g t c =
    let none : c.args.revisions.now.items ≡ [] = grind (arith, common_steps) in
    sym (none_revised c.args.typed.now c.args.revisions.now.items none)

pub put_revision-before-requires-clause-places : goal.put_revision-before-requires-clause-places
put_revision-before-requires-clause-places g t c =
    (last_put c.args.typed.now c.pop.new.self.items c.in-Some.revision (subst (CanBePut c.args.typed.now) c.in-Some.ensures.items c.requires.each)).places

pub put_revision-before-requires-clause-typed : goal.put_revision-before-requires-clause-typed
put_revision-before-requires-clause-typed g t c =
    (last_put c.args.typed.now c.pop.new.self.items c.in-Some.revision (subst (CanBePut c.args.typed.now) c.in-Some.ensures.items c.requires.each)).after

pub reopen_with-requires : goal.reopen_with-requires
reopen_with-requires g t c =
    let popped = c.in-Some.ensures.items in
    let v = c.in-Some.revision in
    let rest = c.pop.new.self.items in
    let m = c.args.typed.now in
    let put = c.put_revision-before.ensures.put in
    let last = last_put m rest v (subst (CanBePut m) popped c.requires.each) in
    let whole = last_revised m rest c.args.revisions.now.items v popped in
    λ κs outlives. (
      grind (arith, common_steps, c.decreases),
      (
        outlives.0,
        (
          outlives.1,
          (
            subst (λ (n : Module). CanBePut n rest) (sym put) last.rest,
            (
              subst (λ (n : Module). AllGoForward (all_revised n rest)) (sym put) (subst AllGoForward whole c.requires.forward),
              (
                subst (λ (n : Module). IsResolved (all_revised n rest)) (sym put) (subst IsResolved whole c.requires.resolved),
                (
                  subst (λ (n : Module). IsChangedAt c.args.but c.args.kept.now.procs (all_revised n rest)) (sym put) (subst (IsChangedAt c.args.but c.args.kept.now.procs) whole c.requires.changed),
                  (c.requires.room, c.requires.goals),
                ),
              ),
            ),
          ),
        ),
      ),
    )

pub returns-in-Some-reopen_with-clause-revised : goal.returns-in-Some-reopen_with-clause-revised
returns-in-Some-reopen_with-clause-revised g t c =
    let rest = c.pop.new.self.items in
    c.in-Some-reopen_with.ensures.revised ∙ ap (λ (n : Module). all_revised n rest) c.put_revision-before.ensures.put ∙ sym (last_revised c.args.typed.now rest c.args.revisions.now.items c.in-Some.revision c.in-Some.ensures.items)

pub put_revision-requires-clause-places : goal.put_revision-requires-clause-places
put_revision-requires-clause-places g t c =
    let put = c.put_revision-before in
    subst (λ (n : Module). HasPlaces n put.result) (sym c.in-None-reopen_with.ensures.typed) put.ensures.places

pub put_revision-requires-clause-typed : goal.put_revision-requires-clause-typed
put_revision-requires-clause-typed g t c =
    let v = c.in-Some.revision in
    let m = c.args.typed.now in
    let put = c.put_revision-before in
    let last = last_put m c.pop.new.self.items v (subst (CanBePut m) c.in-Some.ensures.items c.requires.each) in
    subst IsTypedModule (sym (ap (revised put.result) c.in-None-reopen_with.ensures.typed ∙ put.ensures.back)) last.before

pub returns-in-None-reopen_with-clause-typed : goal.returns-in-None-reopen_with-clause-typed
returns-in-None-reopen_with-clause-typed g t c =
    let put = c.put_revision-before in
    c.put_revision.ensures.put ∙ (ap (revised put.result) c.in-None-reopen_with.ensures.typed ∙ put.ensures.back)
