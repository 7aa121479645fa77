use Rattle.std.proofs.Common.{subst, IfOk, sym, length, ◌<◌}
use Rattle.logic_core.specs.Subterm.{replaced}
use Rattle.term_bank.specs.Numbered.{at}
use Rattle.numbered_terms.specs.At.{IsAt}
use Rattle.numbered_terms.specs.Stored.{Numbered}
use Rattle.numbered_facts.proofs.Later.{memos_later}
use Rattle.numbered_facts.proofs.WidthBelow.{counted_later}
use Rattle.numbered_facts.proofs.Growing.{goes_on}
use Rattle.numbered_facts.proofs.store.Store.replaced.Goals as goal

pub invariant_of-self : goal.invariant_of-self
invariant_of-self c = let m = memos_later c.self.inside.terms c.with_replaced.new.terms c.self.inside.vars.items c.self.inside.defs.now c.self.inside.forms.slots.items c.self.inside.lefts.slots.items c.self.inside.negations.slots.items c.self.inside.atoms.slots.items c.self.inside.standing.slots.items c.self.inside.bodies.slots.items c.self.inside.sorts.slots.items c.self.inside.replacements.slots.items c.self.inside.tights.slots.items c.with_replaced.ensures.grows c.self.invariant.0 in
    (record { forms = m.forms; lefts = m.lefts; negations = m.negations; atoms = m.atoms; standing = m.standing; bodies = m.bodies; sorts = m.sorts; replacements = c.with_replaced.ensures.right; tights = m.tights }, counted_later c.self.inside.terms c.with_replaced.new.terms c.self.inside.counted c.self.inside.width c.with_replaced.ensures.grows c.self.invariant.1)

pub returns-clause-gives : goal.returns-clause-gives
returns-clause-gives c = subst (λ (n : Numbered). IfOk c.with_replaced.result (λ i. IsAt c.with_replaced.new.terms i (replaced (at n.terms c.args.old) (at n.terms c.args.new) (at n.terms c.args.id)))) c.self.view_is c.with_replaced.ensures.gives

pub with_replaced-requires-clause-part : goal.with_replaced-requires-clause-part
with_replaced-requires-clause-part c = subst (λ (n : Numbered). c.args.old < length n.terms) (sym c.self.view_is) c.requires.old

pub with_replaced-requires-clause-by : goal.with_replaced-requires-clause-by
with_replaced-requires-clause-by c = subst (λ (n : Numbered). c.args.new < length n.terms) (sym c.self.view_is) c.requires.new

pub with_replaced-requires-clause-whole : goal.with_replaced-requires-clause-whole
with_replaced-requires-clause-whole c = subst (λ (n : Numbered). c.args.id < length n.terms) (sym c.self.view_is) c.requires.id

pub with_replaced-requires-clause-right : goal.with_replaced-requires-clause-right
with_replaced-requires-clause-right c = c.self.invariant.0.replacements

pub returns-clause-grows : goal.returns-clause-grows
returns-clause-grows c = goes_on (record { terms = c.self.inside.terms; vars = c.self.inside.vars.items; defs = c.self.inside.defs.now }) c.args.self.now c.with_replaced.new.terms c.self.view_is c.with_replaced.ensures.grows
