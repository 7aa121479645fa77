use Rattle.std.proofs.Common.{sym, subst, length, ◌<◌, [], List}
use Rattle.logic_core.specs.Tree.{Kind}
use Rattle.logic_core.specs.Normal.{normal}
use Rattle.term_bank.specs.Numbered.{at}
use Rattle.numbered_terms.specs.At.{GivesAt}
use Rattle.numbered_terms.specs.Stored.{Numbered}
use Rattle.numbered_forms.specs.Forms.{AreForms}
use Rattle.numbered_facts.proofs.Later.{memos_later}
use Rattle.numbered_facts.proofs.WidthBelow.{counted_later}
use Rattle.numbered_facts.proofs.Growing.{goes_on}
use Rattle.numbered_facts.proofs.store.Store.normal.Goals as goal

pub normal_over-requires-clause-forms : goal.normal_over-requires-clause-forms
normal_over-requires-clause-forms c = let ts = c.self.inside.terms in let fs = c.self.inside.forms.slots.items in
    subst (λ vs. AreForms vs c.self.inside.defs.now ts fs) (sym c.deref.ensures.value) c.self.invariant.0.forms

pub invariant_of-self : goal.invariant_of-self
invariant_of-self c = let ts = c.normal_over.new.terms in let fs = c.normal_over.new.forms.slots.items in
    let m = memos_later c.self.inside.terms ts c.self.inside.vars.items c.self.inside.defs.now c.self.inside.forms.slots.items c.self.inside.lefts.slots.items c.self.inside.negations.slots.items c.self.inside.atoms.slots.items c.self.inside.standing.slots.items c.self.inside.bodies.slots.items c.self.inside.sorts.slots.items c.self.inside.replacements.slots.items c.self.inside.tights.slots.items c.normal_over.ensures.grows c.self.invariant.0 in (
      record {
        forms = subst (λ vs. AreForms vs c.self.inside.defs.now ts fs) c.deref.ensures.value c.normal_over.ensures.forms;
        lefts = m.lefts;
        negations = m.negations;
        atoms = m.atoms;
        standing = m.standing;
        bodies = m.bodies;
        sorts = m.sorts;
        replacements = m.replacements;
        tights = m.tights;
      },
      counted_later c.self.inside.terms c.normal_over.new.terms c.self.inside.counted c.self.inside.width c.normal_over.ensures.grows c.self.invariant.1,
    )

pub normal_over-requires-clause-id : goal.normal_over-requires-clause-id
normal_over-requires-clause-id c = subst (λ (n : Numbered). c.args.id < length n.terms) (sym c.self.view_is) c.requires

pub returns-clause-grows : goal.returns-clause-grows
returns-clause-grows c = goes_on (record { terms = c.self.inside.terms; vars = c.self.inside.vars.items; defs = c.self.inside.defs.now }) c.args.self.now c.normal_over.new.terms c.self.view_is c.normal_over.ensures.grows

pub returns-clause-gives : goal.returns-clause-gives
returns-clause-gives c = subst (λ (n : Numbered). GivesAt c.normal_over.new.terms c.normal_over.result (normal n.vars n.defs [] (at n.terms c.args.id))) c.self.view_is (subst (λ (vs : List Kind). GivesAt c.normal_over.new.terms c.normal_over.result (normal vs c.self.inside.defs.now [] (at c.self.inside.terms c.args.id))) c.deref.ensures.value c.normal_over.ensures.gives)
