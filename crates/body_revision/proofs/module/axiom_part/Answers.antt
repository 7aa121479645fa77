use Rattle.body_revision.proofs.module.axiom_part.Goals as goal

pub returns : goal.returns
returns c = record { counted = c.count_axioms.ensures; made = c.in_ok-formula.ensures }
