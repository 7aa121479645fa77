use Rattle.std.proofs.Common.{sym, subst, IfOk, length, ◌<◌}
use Rattle.std.specs.List.{AllByRecursion}
use Rattle.term_bank.specs.Numbered.{at}
use Rattle.term_bank.specs.Node.{tree_over, numbers_in}
use Rattle.numbered_terms.specs.At.{IsAt}
use Rattle.numbered_terms.specs.Stored.{Numbered}
use Rattle.numbered_facts.proofs.Later.{memos_later}
use Rattle.numbered_facts.proofs.WidthBelow.{counted_later}
use Rattle.numbered_facts.proofs.Growing.{goes_on}
use Rattle.numbered_facts.proofs.store.Store.make.Goals as goal

pub invariant_of-self : goal.invariant_of-self
invariant_of-self c = (memos_later c.self.inside.terms c.make.new.self c.self.inside.vars.items c.self.inside.defs.now c.self.inside.forms.slots.items c.self.inside.lefts.slots.items c.self.inside.negations.slots.items c.self.inside.atoms.slots.items c.self.inside.standing.slots.items c.self.inside.bodies.slots.items c.self.inside.sorts.slots.items c.self.inside.replacements.slots.items c.self.inside.tights.slots.items c.make.ensures.grows c.self.invariant.0, counted_later c.self.inside.terms c.make.new.self c.self.inside.counted c.self.inside.width c.make.ensures.grows c.self.invariant.1)

pub make-requires : goal.make-requires
make-requires c = subst (λ (n : Numbered). AllByRecursion (λ j. j < length n.terms) (numbers_in c.args.node)) (sym c.self.view_is) c.requires

pub returns-clause-grows : goal.returns-clause-grows
returns-clause-grows c = goes_on (record { terms = c.self.inside.terms; vars = c.self.inside.vars.items; defs = c.self.inside.defs.now }) c.args.self.now c.make.new.self c.self.view_is c.make.ensures.grows

pub returns-clause-gives : goal.returns-clause-gives
returns-clause-gives c = subst (λ (n : Numbered). IfOk c.make.result (λ i. IsAt c.make.new.self i (tree_over (at n.terms) c.args.node))) c.self.view_is c.make.ensures.number
