use Rattle.std.proofs.Common.{[], ◌∙◌, ap}
use Rattle.proof_core.specs.Proof.{proof, by_past}
use Rattle.tableau.specs.Counted.{three}
use Rattle.tableau.proofs.Assembled.{passed_from, passed_is}
use Rattle.tableau.proofs.assembly.passed_proof.Goals as goal

pub returns-in_ok-above-in-Some : goal.returns-in_ok-above-in-Some
returns-in_ok-above-in-Some c =
    (c.ended.ensures ∙ (λ i. proof [] (by_past c.args.access (c.in_ok-below-in-Some.ensures.ok i) (c.in_ok-same-in-Some.ensures.ok i) (c.in_ok-above-in-Some.ensures.ok i))))
    ∙ (ap (passed_from c.args.access) (c.in-Some.ensures ∙ (λ i. three (c.in_ok-finish_each.ensures i))) ∙ passed_is c.args.access _)

pub returns-in-None : goal.returns-in-None
returns-in-None c = c.ended-in-None.ensures ∙ (ap (passed_from c.args.access) (c.in-None.ensures ∙ (λ i. three (c.in_ok-finish_each.ensures i))) ∙ passed_is c.args.access _)
