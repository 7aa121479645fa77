use Rattle.std.proofs.Common.{[]}
use Rattle.logic_core.specs.Tree.{call}
use Rattle.logic_core.specs.Subterm.{listed}
use Rattle.logic_core.specs.Substitute.{substitute}
use Rattle.logic_laws.proofs.Assigned.{one_value, same_call}
use Rattle.logic_laws.proofs.replace.calls_are_bodies.Goals as goal

pub returns : goal.returns
returns c = λ vars defs frees f d args a e s. one_value frees defs (call f args) (substitute d.body (listed args)) [] (same_call vars defs frees a f d args e s)
