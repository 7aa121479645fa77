use Rattle.std.proofs.Common.{[], ◌∙◌, ap}
use Rattle.proof_core.specs.Proof.{proof, by_condition}
use Rattle.tableau.specs.Counted.{two}
use Rattle.tableau.proofs.Assembled.{chosen_from, chosen_is}
use Rattle.tableau.proofs.assembly.chosen_proof.Goals as goal

pub returns-in_ok-no-in-Some : goal.returns-in_ok-no-in-Some
returns-in_ok-no-in-Some c =
    (c.ended.ensures ∙ (λ i. proof [] (by_condition c.args.f c.args.condition (c.in_ok-yes-in-Some.ensures.ok i) (c.in_ok-no-in-Some.ensures.ok i))))
    ∙ (ap (chosen_from c.args.f c.args.condition) (c.in-Some.ensures ∙ (λ i. two (c.in_ok-finish_each.ensures i))) ∙ chosen_is c.args.f c.args.condition _)

pub returns-in-None : goal.returns-in-None
returns-in-None c = c.ended-in-None.ensures ∙ (ap (chosen_from c.args.f c.args.condition) (c.in-None.ensures ∙ (λ i. two (c.in_ok-finish_each.ensures i))) ∙ chosen_is c.args.f c.args.condition _)
