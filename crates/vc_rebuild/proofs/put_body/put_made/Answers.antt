use Rattle.std.proofs.Common.{◌≡◌, ◌∙◌, ◌++◌, ◌+◌, ap, sym, subst, arith, List, None}
use Rattle.vc_build.specs.declared.goal.Goal.{Goal}
use Rattle.vc_build.specs.Large.{large}
use Rattle.vc_build.specs.Rebuild.{BuiltProc}
use Rattle.vc_rebuild.specs.Kept.{all_goals}
use Rattle.vc_rebuild.proofs.OthersStay.{in_parts}
use Rattle.vc_rebuild.proofs.put_body.put_made.Goals as goal

pub returns-clause-put : goal.returns-clause-put
returns-clause-put c =
    let old = c.args.old.now in
    let empty = c.new-found.result in
    let first = c.add_shared.new.found in
    let more = c.add_built.new.found in
    let all = c.add_shared-2.new.found in
    c.of.ensures ∙ c.into_procs.ensures.same
    ∙ in_parts old c.args.place c.args.made empty first more all c.requires.there c.new-found.ensures
    (c.in_ok-add_shared.ensures.added ∙ ap (λ bs. empty ++ bs) c.first_built.ensures)
    c.in_ok-add_built.ensures.added
    (c.in_ok-add_shared-2.ensures.added ∙ ap (λ bs. more ++ bs) c.built_behind.ensures)

pub returns-clause-within : goal.returns-clause-within
returns-clause-within c = subst (λ (bs : List BuiltProc). large (all_goals bs) ≡ None) (sym c.of.ensures) c.into_procs.ensures.within
