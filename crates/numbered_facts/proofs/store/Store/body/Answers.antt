use Rattle.std.proofs.Common.{subst, ap, option_map, IfOk, List}
use Rattle.std.specs.Prelude.{slice_get}
use Rattle.logic_core.specs.Def.{Def}
use Rattle.numbered_terms.specs.Stored.{Numbered}
use Rattle.numbered_facts.specs.Answers.{StandsFor}
use Rattle.numbered_facts.proofs.Later.{memos_later}
use Rattle.numbered_facts.proofs.WidthBelow.{counted_later}
use Rattle.numbered_facts.proofs.Growing.{goes_on}
use Rattle.numbered_facts.proofs.store.Store.body.Goals as goal

pub body-requires : goal.body-requires
body-requires c = record { right = c.self.invariant.0.bodies }

pub invariant_of-self : goal.invariant_of-self
invariant_of-self c = let us = c.body.new.terms in
    let m = memos_later c.self.inside.terms us c.self.inside.vars.items c.self.inside.defs.now c.self.inside.forms.slots.items c.self.inside.lefts.slots.items c.self.inside.negations.slots.items c.self.inside.atoms.slots.items c.self.inside.standing.slots.items c.self.inside.bodies.slots.items c.self.inside.sorts.slots.items c.self.inside.replacements.slots.items c.self.inside.tights.slots.items c.body.ensures.grows c.self.invariant.0 in (
      record {
        forms = m.forms;
        lefts = m.lefts;
        negations = m.negations;
        atoms = m.atoms;
        standing = m.standing;
        bodies = c.body.ensures.right;
        sorts = m.sorts;
        replacements = m.replacements;
        tights = m.tights;
      },
      counted_later c.self.inside.terms c.body.new.terms c.self.inside.counted c.self.inside.width c.body.ensures.grows c.self.invariant.1,
    )

pub returns-clause-gives : goal.returns-clause-gives
returns-clause-gives c =
    subst (λ (ds : List Def). IfOk c.body.result (λ o. StandsFor c.body.new.terms o (option_map (λ (d : Def). d.body) (slice_get ds c.args.number)))) (ap (λ (n : Numbered). n.defs) c.self.view_is) c.body.ensures.gives

pub returns-clause-grows : goal.returns-clause-grows
returns-clause-grows c = goes_on (record { terms = c.self.inside.terms; vars = c.self.inside.vars.items; defs = c.self.inside.defs.now }) c.args.self.now c.body.new.terms c.self.view_is c.body.ensures.grows
