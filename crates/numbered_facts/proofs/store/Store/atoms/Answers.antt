use Rattle.std.proofs.Common.{sym, subst, length, ◌<◌}
use Rattle.numbered_terms.specs.Stored.{Numbered}
use Rattle.numbered_facts.proofs.Growing.{stays}
use Rattle.numbered_facts.proofs.store.Store.atoms.Goals as goal

pub invariant_of-self : goal.invariant_of-self
invariant_of-self c = (record { forms = c.self.invariant.0.forms; lefts = c.self.invariant.0.lefts; negations = c.self.invariant.0.negations; atoms = c.atoms.ensures.right; standing = c.self.invariant.0.standing; bodies = c.self.invariant.0.bodies; sorts = c.self.invariant.0.sorts; replacements = c.self.invariant.0.replacements; tights = c.self.invariant.0.tights }, c.self.invariant.1)

pub atoms-requires-clause-id : goal.atoms-requires-clause-id
atoms-requires-clause-id c = subst (λ (n : Numbered). c.args.id < length n.terms) (sym c.self.view_is) c.requires

pub atoms-requires-clause-right : goal.atoms-requires-clause-right
atoms-requires-clause-right c = c.self.invariant.0.atoms

pub returns-clause-grows : goal.returns-clause-grows
returns-clause-grows c = stays (record { terms = c.self.inside.terms; vars = c.self.inside.vars.items; defs = c.self.inside.defs.now }) c.args.self.now c.self.view_is

pub returns-clause-atoms : goal.returns-clause-atoms
returns-clause-atoms c = c.atoms.ensures.atoms
