use Rattle.std.proofs.Common.{◌≡◌, ◌∙◌, ap, subst}
use Rattle.std.specs.Prelude.{IfOk}
use Rattle.logic_core.specs.Def.{Obligation}
use Rattle.quantifier_triggers.specs.Choice.{obligation_with_triggers}
use Rattle.obligation_text.specs.Canonical.{canonical}
use Rattle.vc_build.proofs.Chosen.{parts}
use Rattle.vc_build.proofs.obligation.obligation_at.Goals as goal

pub returns : goal.returns
returns c =
    subst (λ (o : Obligation). IfOk c.chosen_and_numbered.result (λ x. x ≡ canonical (obligation_with_triggers o)))
    (λ i. parts ((ap (λ s. s.vars) c.new-signature.ensures ∙ c.of.ensures ∙ c.in_ok-vars.ensures ∙ c.as_slice.ensures) i)
    ((ap (λ s. s.defs) c.new-signature.ensures ∙ ap (λ s. s.defs) c.in_ok-sequent.ensures) i) c.args.axioms.now (ap (λ s. s.goal) c.in_ok-sequent.ensures i))
    c.chosen_and_numbered.ensures
