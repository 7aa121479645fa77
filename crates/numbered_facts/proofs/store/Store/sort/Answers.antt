use Rattle.std.proofs.Common.{◌≡◌, sym, subst, IfOk, length, ◌<◌, [], Option, List, refl}
use Rattle.logic_core.specs.Sorts.{sort_of}
use Rattle.logic_core.specs.Tree.{Kind}
use Rattle.term_bank.specs.Numbered.{at}
use Rattle.numbered_terms.specs.Stored.{Numbered}
use Rattle.numbered_facts.proofs.Growing.{stays}
use Rattle.numbered_facts.proofs.SortsKept.{sorts_over}
use Rattle.numbered_facts.proofs.store.Store.sort.Goals as goal

pub sort-requires-clause-id : goal.sort-requires-clause-id
sort-requires-clause-id c = subst (λ (n : Numbered). c.args.id < length n.terms) (sym c.self.view_is) c.requires

pub sort-requires-clause-right : goal.sort-requires-clause-right
sort-requires-clause-right c = sorts_over c.self.inside.terms c.self.inside.sorts.slots.items c.self.inside.vars.items c.deref.result.now c.self.inside.defs.now c.self.inside.defs.now (sym c.deref.ensures.value) refl c.self.invariant.0.sorts

pub invariant_of-self : goal.invariant_of-self
invariant_of-self c = (
  record {
    forms = c.self.invariant.0.forms;
    lefts = c.self.invariant.0.lefts;
    negations = c.self.invariant.0.negations;
    atoms = c.self.invariant.0.atoms;
    standing = c.self.invariant.0.standing;
    bodies = c.self.invariant.0.bodies;
    sorts = sorts_over c.self.inside.terms c.sort.new.memo.slots.items c.deref.result.now c.self.inside.vars.items c.self.inside.defs.now c.self.inside.defs.now c.deref.ensures.value refl c.sort.ensures.right;
    replacements = c.self.invariant.0.replacements;
    tights = c.self.invariant.0.tights;
  },
  c.self.invariant.1,
)

pub returns-clause-grows : goal.returns-clause-grows
returns-clause-grows c = stays (record { terms = c.self.inside.terms; vars = c.self.inside.vars.items; defs = c.self.inside.defs.now }) c.args.self.now c.self.view_is

pub returns-clause-gives : goal.returns-clause-gives
returns-clause-gives c = subst (λ (n : Numbered). IfOk c.sort.result (λ (s : Option Kind). s ≡ sort_of n.vars n.defs [] (at n.terms c.args.id))) c.self.view_is (subst (λ (vs : List Kind). IfOk c.sort.result (λ (s : Option Kind). s ≡ sort_of vs c.self.inside.defs.now [] (at c.self.inside.terms c.args.id))) c.deref.ensures.value c.sort.ensures.gives)
