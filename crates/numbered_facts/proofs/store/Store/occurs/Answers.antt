use Rattle.std.proofs.Common.{◌≡◌, sym, subst, IfOk, length, ◌<◌}
use Rattle.logic_core.specs.Subterm.{occurs}
use Rattle.term_bank.specs.Numbered.{at}
use Rattle.numbered_terms.specs.Stored.{Numbered}
use Rattle.numbered_facts.proofs.Growing.{stays}
use Rattle.numbered_facts.proofs.store.Store.occurs.Goals as goal

pub invariant_of-self : goal.invariant_of-self
invariant_of-self c = (record { forms = c.self.invariant.0.forms; lefts = c.self.invariant.0.lefts; negations = c.self.invariant.0.negations; atoms = c.part_occurs.ensures.right; standing = c.self.invariant.0.standing; bodies = c.self.invariant.0.bodies; sorts = c.self.invariant.0.sorts; replacements = c.self.invariant.0.replacements; tights = c.self.invariant.0.tights }, c.self.invariant.1)

pub part_occurs-requires-clause-part : goal.part_occurs-requires-clause-part
part_occurs-requires-clause-part c = subst (λ (n : Numbered). c.args.part < length n.terms) (sym c.self.view_is) c.requires.part

pub part_occurs-requires-clause-id : goal.part_occurs-requires-clause-id
part_occurs-requires-clause-id c = subst (λ (n : Numbered). c.args.id < length n.terms) (sym c.self.view_is) c.requires.id

pub part_occurs-requires-clause-right : goal.part_occurs-requires-clause-right
part_occurs-requires-clause-right c = c.self.invariant.0.atoms

pub returns-clause-grows : goal.returns-clause-grows
returns-clause-grows c = stays (record { terms = c.self.inside.terms; vars = c.self.inside.vars.items; defs = c.self.inside.defs.now }) c.args.self.now c.self.view_is

pub returns-clause-gives : goal.returns-clause-gives
returns-clause-gives c = subst (λ (n : Numbered). IfOk c.part_occurs.result (λ b. b ≡ occurs (at n.terms c.args.part) (at n.terms c.args.id))) c.self.view_is c.part_occurs.ensures.gives
