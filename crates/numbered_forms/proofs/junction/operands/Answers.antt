use Rattle.logic_core.specs.View.{trees_of}
use Rattle.logic_core.specs.Junction.{operands}
use Rattle.numbered_terms.specs.Lists.{terms_at}
use Rattle.numbered_forms.proofs.Operands.{operands_all}
use Rattle.numbered_forms.proofs.junction.operands.Goals as goal

pub returns-clause-gives : goal.returns-clause-gives
returns-clause-gives c = operands_all c.args.terms.now c.args.connective c.loop-id.parts.items c.args.ids.now c.loop-id.id-index (operands c.args.connective (trees_of (terms_at c.args.terms.now c.args.ids.now))) c.loop-id-test.false c.loop-id.invariant.made
