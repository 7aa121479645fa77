use Rattle.std.proofs.Common.{◌≡◌, ◌∙◌, ◌+◌, ap, sym, subst, arith, cond, length, take, map, slice_set, Some, None}
use Rattle.std.proofs.lemmas.Option.{slice_get_within}
use Rattle.bpl_model.specs.Module.{Proc}
use Rattle.bpl_model.specs.NoGoto.{BodyHasNoGoto}
use Rattle.vc_build.specs.Large.{large}
use Rattle.vc_build.specs.Rebuild.{BuiltProc, with_body}
use Rattle.vc_rebuild.specs.Kept.{Program, all_goals, having_body, kept_of}
use Rattle.vc_rebuild.specs.Inside.{AreBuilt}
use Rattle.vc_rebuild.proofs.KeptGoals.{contained}
use Rattle.vc_rebuild.proofs.OthersStay.{got_of, new_body, place_there, all_put, one_new}
use Rattle.vc_rebuild.proofs.Programs.{goals_having}
use Rattle.vc_rebuild.proofs.put_body.put_body.Goals as goal

pub place_of-place-requires : goal.place_of-place-requires
place_of-place-requires g c = omega (slice_get_within c.args.links.now.procs c.args.body.proc_at c.args.proc.now (sym c.requires.there), ap length c.procs_of.ensures, arith)

pub made_at-requires-clause-there : goal.made_at-requires-clause-there
made_at-requires-clause-there g c = contained c.args.links.now.procs c.args.body.proc_at c.args.proc.now (sym c.requires.there)

pub made_at-requires-clause-no_goto : goal.made_at-requires-clause-no_goto
made_at-requires-clause-no_goto g c = got_of (λ (p : Proc). BodyHasNoGoto p.body) c.args.links.now.procs c.args.body.proc_at c.args.proc.now c.requires.no_goto c.requires.there

pub made_at-requires-clause-body : goal.made_at-requires-clause-body
made_at-requires-clause-body g c = new_body c.args.body c.args.old.now.procs c.args.links.now c.requires.changed c.args.proc.now c.requires.there

pub put_made-requires-clause-there : goal.put_made-requires-clause-there
put_made-requires-clause-there g c =
    let at = c.place_of-place.ensures ∙ ap (λ ps. length (having_body (take c.args.body.proc_at ps))) c.procs_of.ensures in
    omega (place_there c.args.body c.args.old.now.procs c.args.links.now c.requires.changed c.args.proc.now c.requires.there c.place_of-place.result at, ap length c.procs.ensures, arith)

pub with_procs-requires : goal.with_procs-requires
with_procs-requires g c =
    let n = c.args.links.now in
    let at = c.place_of-place.ensures ∙ ap (λ ps. length (having_body (take c.args.body.proc_at ps))) c.procs_of.ensures in
    let law = all_put c.args.body c.args.old.now.procs n c.requires.changed c.args.proc.now c.requires.there c.goals_have_their_marks.ensures c.requires.decided c.requires.alone c.place_of-place.result c.in_ok-made.made.built at c.in_ok-made.ensures.built in
    subst AreBuilt (sym (c.in_ok-procs.ensures.put ∙ ap (λ bs. slice_set bs c.place_of-place.result c.in_ok-made.made.built) c.procs.ensures ∙ law)) c.requires.built

pub returns-clause-program : goal.returns-clause-program
returns-clause-program g c =
    let n = c.args.links.now in
    let at = c.place_of-place.ensures ∙ ap (λ ps. length (having_body (take c.args.body.proc_at ps))) c.procs_of.ensures in
    let law = all_put c.args.body c.args.old.now.procs n c.requires.changed c.args.proc.now c.requires.there c.goals_have_their_marks.ensures c.requires.decided c.requires.alone c.place_of-place.result c.in_ok-made.made.built at c.in_ok-made.ensures.built in
    let procs = c.in_ok-procs.ensures.put ∙ ap (λ bs. slice_set bs c.place_of-place.result c.in_ok-made.made.built) c.procs.ensures ∙ law in
    let count = c.one_if-rebuilt.ensures ∙ ap (λ b. cond b 1 0) c.in_ok-made.ensures.told ∙ one_new c.args.body c.args.old.now.procs n c.requires.changed c.args.proc.now c.requires.there c.goals_have_their_marks.ensures c.requires.decided c.requires.alone in
    c.with_procs.ensures ∙ (λ i. record { procs = procs i; rebuilt = count i })

pub returns-clause-place : goal.returns-clause-place
returns-clause-place g c =
    let at = c.place_of-place.ensures ∙ ap (λ ps. length (having_body (take c.args.body.proc_at ps))) c.procs_of.ensures in
    record {
      there = place_there c.args.body c.args.old.now.procs c.args.links.now c.requires.changed c.args.proc.now c.requires.there c.place_of-place.result at;
      new = c.in_ok-made.made.built;
      put = ap (λ (x : Program). x.procs) c.with_procs.ensures ∙ c.in_ok-procs.ensures.put ∙ ap (λ bs. slice_set bs c.place_of-place.result c.in_ok-made.made.built) c.procs.ensures;
    }

pub returns-clause-within : goal.returns-clause-within
returns-clause-within g c =
    let n = c.args.links.now in
    let at = c.place_of-place.ensures ∙ ap (λ ps. length (having_body (take c.args.body.proc_at ps))) c.procs_of.ensures in
    let law = all_put c.args.body c.args.old.now.procs n c.requires.changed c.args.proc.now c.requires.there c.goals_have_their_marks.ensures c.requires.decided c.requires.alone c.place_of-place.result c.in_ok-made.made.built at c.in_ok-made.ensures.built in
    let procs = c.in_ok-procs.ensures.put ∙ ap (λ bs. slice_set bs c.place_of-place.result c.in_ok-made.made.built) c.procs.ensures ∙ law in
    subst (λ gs. large gs ≡ None) (ap all_goals procs ∙ goals_having n n.procs) c.in_ok-procs.ensures.within

pub returns-clause-steps : goal.returns-clause-steps
returns-clause-steps g c =
    c.in_ok-made.ensures.steps
    ∙ ap (λ k. c.args.steps.now + k) (one_new c.args.body c.args.old.now.procs c.args.links.now c.requires.changed c.args.proc.now c.requires.there c.goals_have_their_marks.ensures c.requires.decided c.requires.alone)
