use Rattle.std.specs.Prelude.{refl}
use Rattle.proof_text.proofs.node.Branch.proved.Goals as goal

pub returns-in-Case : goal.returns-in-Case
returns-in-Case c = rw (c.in-Case.is, c.new.ensures) refl

pub returns-in-Then : goal.returns-in-Then
returns-in-Then c = rw c.in-Then.is refl

pub returns-in-Else : goal.returns-in-Else
returns-in-Else c = rw c.in-Else.is refl

pub returns-in-Below : goal.returns-in-Below
returns-in-Below c = rw c.in-Below.is refl

pub returns-in-Same : goal.returns-in-Same
returns-in-Same c = rw c.in-Same.is refl

pub returns-in-Above : goal.returns-in-Above
returns-in-Above c = rw c.in-Above.is refl
