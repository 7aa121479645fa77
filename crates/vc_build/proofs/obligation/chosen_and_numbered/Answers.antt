use Rattle.std.proofs.Common.{◌≡◌, ◌∙◌, ap, map, subst}
use Rattle.std.specs.Prelude.{IfOk}
use Rattle.logic_core.specs.Def.{Obligation}
use Rattle.quantifier_triggers.specs.Choice.{def_with_triggers}
use Rattle.obligation_text.specs.Canonical.{canonical}
use Rattle.vc_build.proofs.Chosen.{parts, parts_chosen, chosen_sorted, chosen_bodies}
use Rattle.vc_build.proofs.obligation.chosen_and_numbered.Goals as goal

pub new-chosen-requires : goal.new-chosen-requires
new-chosen-requires c =
    let o = parts c.args.signature.now.vars c.args.signature.now.defs c.args.axioms.now c.args.goal.now in
    chosen_bodies o c.of.result c.of-2.result c.requires (c.of.ensures ∙ c.in_ok-vars.ensures ∙ c.vars.ensures)
    (c.of-2.ensures ∙ c.in_ok-defs.ensures ∙ ap (map (def_with_triggers o.defs)) c.defs.ensures)

pub numbered-requires : goal.numbered-requires
numbered-requires c =
    let o = parts c.args.signature.now.vars c.args.signature.now.defs c.args.axioms.now c.args.goal.now in
    chosen_sorted o (parts c.new-chosen.result.vars c.new-chosen.result.defs c.deref.result.now c.in_ok-goal.goal) c.requires
    (parts_chosen o c.new-chosen.result.vars c.new-chosen.result.defs c.deref.result.now c.in_ok-goal.goal
    (ap (λ s. s.vars) c.new-chosen.ensures ∙ c.of.ensures ∙ c.in_ok-vars.ensures ∙ c.vars.ensures)
    (ap (λ s. s.defs) c.new-chosen.ensures ∙ c.of-2.ensures ∙ c.in_ok-defs.ensures ∙ ap (map (def_with_triggers o.defs)) c.defs.ensures)
    (c.deref.ensures.value ∙ c.in_ok-axioms.ensures) c.in_ok-goal.ensures.term)

pub returns : goal.returns
returns c =
    let o = parts c.args.signature.now.vars c.args.signature.now.defs c.args.axioms.now c.args.goal.now in
    subst (λ (made : Obligation). IfOk c.numbered.result (λ x. x ≡ canonical made))
    (parts_chosen o c.new-chosen.result.vars c.new-chosen.result.defs c.deref.result.now c.in_ok-goal.goal
    (ap (λ s. s.vars) c.new-chosen.ensures ∙ c.of.ensures ∙ c.in_ok-vars.ensures ∙ c.vars.ensures)
    (ap (λ s. s.defs) c.new-chosen.ensures ∙ c.of-2.ensures ∙ c.in_ok-defs.ensures ∙ ap (map (def_with_triggers o.defs)) c.defs.ensures)
    (c.deref.ensures.value ∙ c.in_ok-axioms.ensures) c.in_ok-goal.ensures.term)
    c.numbered.ensures
