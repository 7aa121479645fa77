use mathlib.Core.Logic.{inr}
use Rattle.numbered_facts.proofs.Indexes.{looked_up}
use Rattle.numbered_facts.proofs.numbers.look_up.Goals as goal

pub returns-then-members-gt-FEW-clause-ok : goal.returns-then-members-gt-FEW-clause-ok
returns-then-members-gt-FEW-clause-ok c = looked_up c.args.members.now c.args.index.now.keys c.requires.found c.if-members-gt-FEW.true

pub returns-clause-found : goal.returns-clause-found
returns-clause-found c = inr c.in_ok-index.ensures
