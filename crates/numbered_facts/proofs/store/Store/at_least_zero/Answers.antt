use Rattle.std.proofs.Common.{sym, subst, IfOk, length}
use Rattle.logic_core.specs.Combine.{at_least_zero}
use Rattle.numbered_terms.specs.At.{IsAt}
use Rattle.numbered_terms.specs.Lists.{AtomsBelow}
use Rattle.numbered_terms.specs.Stored.{Numbered}
use Rattle.numbered_forms.specs.Sums.{sum_at}
use Rattle.numbered_facts.proofs.Later.{memos_later}
use Rattle.numbered_facts.proofs.WidthBelow.{counted_later}
use Rattle.numbered_facts.proofs.Growing.{goes_on}
use Rattle.numbered_facts.proofs.store.Store.at_least_zero.Goals as goal

pub invariant_of-self : goal.invariant_of-self
invariant_of-self c = (memos_later c.self.inside.terms c.at_least_zero.new.terms c.self.inside.vars.items c.self.inside.defs.now c.self.inside.forms.slots.items c.self.inside.lefts.slots.items c.self.inside.negations.slots.items c.self.inside.atoms.slots.items c.self.inside.standing.slots.items c.self.inside.bodies.slots.items c.self.inside.sorts.slots.items c.self.inside.replacements.slots.items c.self.inside.tights.slots.items c.at_least_zero.ensures.grows c.self.invariant.0, counted_later c.self.inside.terms c.at_least_zero.new.terms c.self.inside.counted c.self.inside.width c.at_least_zero.ensures.grows c.self.invariant.1)

pub at_least_zero-requires : goal.at_least_zero-requires
at_least_zero-requires c = subst (λ (n : Numbered). AtomsBelow (length n.terms) c.args.sum.parts.items) (sym c.self.view_is) c.requires

pub returns-clause-grows : goal.returns-clause-grows
returns-clause-grows c = goes_on (record { terms = c.self.inside.terms; vars = c.self.inside.vars.items; defs = c.self.inside.defs.now }) c.args.self.now c.at_least_zero.new.terms c.self.view_is c.at_least_zero.ensures.grows

pub returns-clause-gives : goal.returns-clause-gives
returns-clause-gives c = subst (λ (n : Numbered). IfOk c.at_least_zero.result (λ i. IsAt c.at_least_zero.new.terms i (at_least_zero (sum_at n.terms c.args.sum)))) c.self.view_is c.at_least_zero.ensures.gives
