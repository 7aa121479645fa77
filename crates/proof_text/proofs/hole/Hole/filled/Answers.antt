use Rattle.std.specs.Prelude.{refl}
use Rattle.proof_text.proofs.hole.Hole.filled.Goals as goal

pub returns-in-Not : goal.returns-in-Not
returns-in-Not c = rw c.in-Not.is refl

pub returns-in-Left : goal.returns-in-Left
returns-in-Left c = rw c.in-Left.is refl

pub returns-in-Right : goal.returns-in-Right
returns-in-Right c = rw c.in-Right.is refl

pub returns-in-First : goal.returns-in-First
returns-in-First c = rw c.in-First.is refl

pub returns-in-Second : goal.returns-in-Second
returns-in-Second c = rw c.in-Second.is refl

pub returns-in-Third : goal.returns-in-Third
returns-in-Third c = rw c.in-Third.is refl

pub returns-in-Body : goal.returns-in-Body
returns-in-Body c = rw c.in-Body.is refl
