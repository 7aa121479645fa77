use Rattle.std.proofs.Common.{[], ◌∙◌, ap}
use Rattle.proof_core.specs.Proof.{proof, by_trichotomy}
use Rattle.tableau.specs.Counted.{three}
use Rattle.tableau.proofs.Assembled.{decided_from, decided_is}
use Rattle.tableau.proofs.assembly.decided_proof.Goals as goal

pub returns-in_ok-above-in-Some : goal.returns-in_ok-above-in-Some
returns-in_ok-above-in-Some c =
    (c.ended.ensures ∙ (λ i. proof [] (by_trichotomy c.args.number (c.in_ok-below-in-Some.ensures.ok i) (c.in_ok-same-in-Some.ensures.ok i) (c.in_ok-above-in-Some.ensures.ok i))))
    ∙ (ap (decided_from c.args.number) (c.in-Some.ensures ∙ (λ i. three (c.in_ok-finish_each.ensures i))) ∙ decided_is c.args.number _)

pub returns-in-None : goal.returns-in-None
returns-in-None c = c.ended-in-None.ensures ∙ (ap (decided_from c.args.number) (c.in-None.ensures ∙ (λ i. three (c.in_ok-finish_each.ensures i))) ∙ decided_is c.args.number _)
