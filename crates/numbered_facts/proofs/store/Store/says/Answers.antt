use Rattle.std.proofs.Common.{sym, subst, IfOk, length, ◌<◌}
use Rattle.proof_core.specs.Says.{says}
use Rattle.term_bank.specs.Numbered.{at}
use Rattle.numbered_terms.specs.Stored.{Numbered}
use Rattle.numbered_facts.proofs.Later.{memos_later}
use Rattle.numbered_facts.proofs.WidthBelow.{counted_later}
use Rattle.numbered_facts.specs.Answers.{StandsFor}
use Rattle.numbered_facts.proofs.Growing.{goes_on}
use Rattle.numbered_facts.proofs.store.Store.says.Goals as goal

pub invariant_of-self : goal.invariant_of-self
invariant_of-self c = (memos_later c.self.inside.terms c.says.new.terms c.self.inside.vars.items c.self.inside.defs.now c.self.inside.forms.slots.items c.self.inside.lefts.slots.items c.self.inside.negations.slots.items c.self.inside.atoms.slots.items c.self.inside.standing.slots.items c.self.inside.bodies.slots.items c.self.inside.sorts.slots.items c.self.inside.replacements.slots.items c.self.inside.tights.slots.items c.says.ensures.grows c.self.invariant.0, counted_later c.self.inside.terms c.says.new.terms c.self.inside.counted c.self.inside.width c.says.ensures.grows c.self.invariant.1)

pub says-requires-clause-fact : goal.says-requires-clause-fact
says-requires-clause-fact c = subst (λ (n : Numbered). c.args.fact < length n.terms) (sym c.self.view_is) c.requires.fact

pub says-requires-clause-t : goal.says-requires-clause-t
says-requires-clause-t c = subst (λ (n : Numbered). c.args.term < length n.terms) (sym c.self.view_is) c.requires.term

pub returns-clause-grows : goal.returns-clause-grows
returns-clause-grows c = goes_on (record { terms = c.self.inside.terms; vars = c.self.inside.vars.items; defs = c.self.inside.defs.now }) c.args.self.now c.says.new.terms c.self.view_is c.says.ensures.grows

pub returns-clause-gives : goal.returns-clause-gives
returns-clause-gives c = subst (λ (n : Numbered). IfOk c.says.result (λ o. StandsFor c.says.new.terms o (says (at n.terms c.args.fact) (at n.terms c.args.term)))) c.self.view_is c.says.ensures.gives
