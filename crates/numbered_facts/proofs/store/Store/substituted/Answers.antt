use Rattle.std.proofs.Common.{subst, IfOk, sym, length, ◌<◌}
use Rattle.std.specs.List.{AllByRecursion}
use Rattle.logic_core.specs.Substitute.{substitute}
use Rattle.term_bank.specs.Numbered.{at}
use Rattle.numbered_terms.specs.At.{IsAt}
use Rattle.numbered_terms.specs.Lists.{terms_at}
use Rattle.numbered_terms.specs.Stored.{Numbered}
use Rattle.numbered_facts.proofs.Later.{memos_later}
use Rattle.numbered_facts.proofs.WidthBelow.{counted_later}
use Rattle.numbered_facts.proofs.Growing.{goes_on}
use Rattle.numbered_facts.proofs.store.Store.substituted.Goals as goal

pub invariant_of-self : goal.invariant_of-self
invariant_of-self c = (memos_later c.self.inside.terms c.substitute.new.terms c.self.inside.vars.items c.self.inside.defs.now c.self.inside.forms.slots.items c.self.inside.lefts.slots.items c.self.inside.negations.slots.items c.self.inside.atoms.slots.items c.self.inside.standing.slots.items c.self.inside.bodies.slots.items c.self.inside.sorts.slots.items c.self.inside.replacements.slots.items c.self.inside.tights.slots.items c.substitute.ensures.grows c.self.invariant.0, counted_later c.self.inside.terms c.substitute.new.terms c.self.inside.counted c.self.inside.width c.substitute.ensures.grows c.self.invariant.1)

pub returns-clause-gives : goal.returns-clause-gives
returns-clause-gives c = subst (λ (n : Numbered). IfOk c.substitute.result (λ i. IsAt c.substitute.new.terms i (substitute (at n.terms c.args.body) (terms_at n.terms c.args.args.now)))) c.self.view_is c.substitute.ensures.gives

pub substitute-requires-clause-args : goal.substitute-requires-clause-args
substitute-requires-clause-args c = subst (λ (n : Numbered). AllByRecursion (λ j. j < length n.terms) c.args.args.now) (sym c.self.view_is) c.requires.args

pub substitute-requires-clause-body : goal.substitute-requires-clause-body
substitute-requires-clause-body c = subst (λ (n : Numbered). c.args.body < length n.terms) (sym c.self.view_is) c.requires.body

pub returns-clause-grows : goal.returns-clause-grows
returns-clause-grows c = goes_on (record { terms = c.self.inside.terms; vars = c.self.inside.vars.items; defs = c.self.inside.defs.now }) c.args.self.now c.substitute.new.terms c.self.view_is c.substitute.ensures.grows
