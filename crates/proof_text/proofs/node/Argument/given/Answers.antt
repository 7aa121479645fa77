use Rattle.std.specs.Prelude.{refl}
use Rattle.proof_text.proofs.node.Argument.given.Goals as goal

pub returns-in-Replace : goal.returns-in-Replace
returns-in-Replace c = rw (c.in-Replace.is, c.step.ensures) refl

pub returns-in-Unfold : goal.returns-in-Unfold
returns-in-Unfold c = rw (c.in-Unfold.is, c.step-in-Unfold.ensures) refl

pub returns-in-Back : goal.returns-in-Back
returns-in-Back c = rw (c.in-Back.is, c.step-in-Back.ensures) refl

pub returns-in-Condition : goal.returns-in-Condition
returns-in-Condition c = rw c.in-Condition.is refl

pub returns-in-Three : goal.returns-in-Three
returns-in-Three c = rw c.in-Three.is refl
