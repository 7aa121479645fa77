use Rattle.std.proofs.Common.{map, length, ◌∙◌, ◌<◌, sym, subst}
use Rattle.logic_core.specs.Def.{Obligation}
use Rattle.logic_core.specs.Renamed.{both_renamed, def_renamed, new_number}
use Rattle.obligation_text.specs.Canonical.{picked}
use Rattle.obligation_text.proofs.Tables.{parts_canonical}
use Rattle.obligation_text.proofs.canonical.renumbered.Goals as goal

pub returns : goal.returns
returns c =
    let o : Obligation = record { vars = c.args.signature.now.vars; defs = c.args.signature.now.defs; axioms = c.args.axioms.now; goal = c.args.goal.now } in
    parts_canonical o c.requires.sorted c.args.order.now c.args.named.now c.in_ok-definitions.definitions.items c.in_ok-variables.variables.items c.requires.order c.requires.named
    (λ k below. c.in_ok-definitions.ensures k (subst (λ ds. k < length ds) (sym c.defs.ensures) below))
    (λ k below. c.in_ok-variables.ensures k (subst (λ ks. k < length ks) (sym c.vars.ensures) below))
    c.of.result c.of-2.result c.of-3.result c.in_ok-goal.goal
    (c.of.ensures ∙ c.in_ok-vars.ensures ∙ (λ i. picked (c.vars-2.ensures i) (c.numbers.ensures i)))
    (c.of-2.ensures ∙ c.in_ok-defs.ensures ∙ (λ i. map (def_renamed (new_number (c.deref-2.ensures.value i)) (new_number (c.deref-3.ensures.value i))) ((c.deref.ensures.value ∙ c.in_ok-picked.ensures ∙ (λ j. picked (c.defs-2.ensures j) (c.numbers-2.ensures j))) i)))
    (c.of-3.ensures ∙ c.in_ok-axioms.ensures ∙ (λ i. map (both_renamed (new_number (c.deref-4.ensures.value i)) (new_number (c.deref-5.ensures.value i))) c.args.axioms.now))
    (c.in_ok-goal.ensures ∙ (λ i. both_renamed (new_number (c.deref-6.ensures.value i)) (new_number (c.deref-7.ensures.value i)) c.args.goal.now))
