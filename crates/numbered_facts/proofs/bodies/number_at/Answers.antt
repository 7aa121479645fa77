use Rattle.numbered_terms.proofs.Measuring.{at_number}
use Rattle.numbered_facts.proofs.bodies.number_at.Goals as goal

pub returns-clause-gives : goal.returns-clause-gives
returns-clause-gives c = at_number c.args.terms.now c.number.new.terms c.args.term.now c.in_ok-id.id c.in_ok-id.ensures.number
