use Rattle.std.proofs.Common.{refl, sym, subst, IfOk, length, ◌<◌, List}
use Rattle.logic_core.specs.Tree.{Kind}
use Rattle.tableau_branch.specs.Oriented.{left_side}
use Rattle.term_bank.specs.Numbered.{at}
use Rattle.numbered_terms.specs.Slots.{AreKept}
use Rattle.numbered_terms.specs.Stored.{Numbered}
use Rattle.numbered_facts.specs.Memos.{IsLeft}
use Rattle.numbered_facts.proofs.SortsKept.{sorts_over}
use Rattle.numbered_facts.specs.Answers.{StandsFor}
use Rattle.numbered_facts.proofs.Growing.{stays}
use Rattle.numbered_facts.proofs.store.Store.left_side.Goals as goal

pub left-requires-clause-right : goal.left-requires-clause-right
left-requires-clause-right c = let ts = c.self.inside.terms in let ls = c.self.inside.lefts.slots.items in
    subst (λ vs. AreKept (IsLeft (record { terms = ts; vars = vs; defs = c.self.inside.defs.now })) ls) (sym c.deref.ensures.value) c.self.invariant.0.lefts

pub left-requires-clause-sorts : goal.left-requires-clause-sorts
left-requires-clause-sorts c = sorts_over c.self.inside.terms c.self.inside.sorts.slots.items c.self.inside.vars.items c.deref.result.now c.self.inside.defs.now c.self.inside.defs.now (sym c.deref.ensures.value) refl c.self.invariant.0.sorts

pub invariant_of-self : goal.invariant_of-self
invariant_of-self c = let ts = c.self.inside.terms in let ls = c.left.new.lefts.slots.items in (
  record {
    forms = c.self.invariant.0.forms;
    lefts = subst (λ vs. AreKept (IsLeft (record { terms = ts; vars = vs; defs = c.self.inside.defs.now })) ls) c.deref.ensures.value c.left.ensures.right;
    negations = c.self.invariant.0.negations;
    atoms = c.self.invariant.0.atoms;
    standing = c.self.invariant.0.standing;
    bodies = c.self.invariant.0.bodies;
    sorts = sorts_over c.self.inside.terms c.left.new.sorts.slots.items c.deref.result.now c.self.inside.vars.items c.self.inside.defs.now c.self.inside.defs.now c.deref.ensures.value refl c.left.ensures.sorts;
    replacements = c.self.invariant.0.replacements;
    tights = c.self.invariant.0.tights;
  },
  c.self.invariant.1,
)

pub left-requires-clause-fact : goal.left-requires-clause-fact
left-requires-clause-fact c = subst (λ (n : Numbered). c.args.fact < length n.terms) (sym c.self.view_is) c.requires

pub returns-clause-grows : goal.returns-clause-grows
returns-clause-grows c = stays (record { terms = c.self.inside.terms; vars = c.self.inside.vars.items; defs = c.self.inside.defs.now }) c.args.self.now c.self.view_is

pub returns-clause-gives : goal.returns-clause-gives
returns-clause-gives c = subst (λ (n : Numbered). IfOk c.left.result (λ o. StandsFor c.self.inside.terms o (left_side n.vars n.defs (at n.terms c.args.fact)))) c.self.view_is (subst (λ (vs : List Kind). IfOk c.left.result (λ o. StandsFor c.self.inside.terms o (left_side vs c.self.inside.defs.now (at c.self.inside.terms c.args.fact)))) c.deref.ensures.value c.left.ensures.gives)
