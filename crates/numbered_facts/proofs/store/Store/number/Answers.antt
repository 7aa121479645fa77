use Rattle.numbered_facts.proofs.Later.{memos_later}
use Rattle.numbered_facts.proofs.WidthBelow.{counted_later}
use Rattle.numbered_facts.proofs.Growing.{goes_on}
use Rattle.numbered_facts.proofs.store.Store.number.Goals as goal

pub invariant_of-self : goal.invariant_of-self
invariant_of-self c = (memos_later c.self.inside.terms c.number_at.new.terms c.self.inside.vars.items c.self.inside.defs.now c.self.inside.forms.slots.items c.self.inside.lefts.slots.items c.self.inside.negations.slots.items c.self.inside.atoms.slots.items c.self.inside.standing.slots.items c.self.inside.bodies.slots.items c.self.inside.sorts.slots.items c.self.inside.replacements.slots.items c.self.inside.tights.slots.items c.number_at.ensures.grows c.self.invariant.0, counted_later c.self.inside.terms c.number_at.new.terms c.self.inside.counted c.self.inside.width c.number_at.ensures.grows c.self.invariant.1)

pub returns-clause-grows : goal.returns-clause-grows
returns-clause-grows c = goes_on (record { terms = c.self.inside.terms; vars = c.self.inside.vars.items; defs = c.self.inside.defs.now }) c.args.self.now c.number_at.new.terms c.self.view_is c.number_at.ensures.grows
