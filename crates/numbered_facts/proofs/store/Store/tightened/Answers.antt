use Rattle.std.proofs.Common.{sym, subst, IfOk, length, ◌<◌}
use Rattle.logic_core.specs.Tighten.{tighten}
use Rattle.term_bank.specs.Numbered.{at}
use Rattle.numbered_terms.specs.At.{IsAt}
use Rattle.numbered_terms.specs.Stored.{Numbered}
use Rattle.numbered_facts.proofs.Later.{memos_later}
use Rattle.numbered_facts.proofs.WidthBelow.{counted_later}
use Rattle.numbered_facts.proofs.Growing.{goes_on}
use Rattle.numbered_facts.proofs.store.Store.tightened.Goals as goal

pub invariant_of-self : goal.invariant_of-self
invariant_of-self c = let m = memos_later c.self.inside.terms c.tight.new.terms c.self.inside.vars.items c.self.inside.defs.now c.self.inside.forms.slots.items c.self.inside.lefts.slots.items c.self.inside.negations.slots.items c.self.inside.atoms.slots.items c.self.inside.standing.slots.items c.self.inside.bodies.slots.items c.self.inside.sorts.slots.items c.self.inside.replacements.slots.items c.self.inside.tights.slots.items c.tight.ensures.grows c.self.invariant.0 in
    (record { forms = m.forms; lefts = m.lefts; negations = m.negations; atoms = m.atoms; standing = m.standing; bodies = m.bodies; sorts = m.sorts; replacements = m.replacements; tights = c.tight.ensures.right }, counted_later c.self.inside.terms c.tight.new.terms c.self.inside.counted c.self.inside.width c.tight.ensures.grows c.self.invariant.1)

pub tight-requires-clause-id : goal.tight-requires-clause-id
tight-requires-clause-id c = subst (λ (n : Numbered). c.args.id < length n.terms) (sym c.self.view_is) c.requires

pub tight-requires-clause-right : goal.tight-requires-clause-right
tight-requires-clause-right c = c.self.invariant.0.tights

pub returns-clause-grows : goal.returns-clause-grows
returns-clause-grows c = goes_on (record { terms = c.self.inside.terms; vars = c.self.inside.vars.items; defs = c.self.inside.defs.now }) c.args.self.now c.tight.new.terms c.self.view_is c.tight.ensures.grows

pub returns-clause-gives : goal.returns-clause-gives
returns-clause-gives c = subst (λ (n : Numbered). IfOk c.tight.result (λ i. IsAt c.tight.new.terms i (tighten (at n.terms c.args.id)))) c.self.view_is c.tight.ensures.gives
