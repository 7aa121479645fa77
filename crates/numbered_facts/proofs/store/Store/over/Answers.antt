use Rattle.std.proofs.Common.{◌≡◌, refl, ◌∙◌, sym, ap, subst, ℕ, List, take}
use Rattle.logic_core.specs.Tree.{Kind}
use Rattle.logic_core.specs.Same.{same_kinds}
use Rattle.numbered_terms.specs.Stored.{Numbered}
use Rattle.numbered_facts.specs.Alike.{AreCounted}
use Rattle.numbered_facts.proofs.AlikeMemos.{memos_with}
use Rattle.numbered_facts.proofs.AlikeSorts.{agree}
use Rattle.numbered_facts.proofs.SameSorts.{same_sorts, same_front}
use Rattle.numbered_facts.proofs.WidthBelow.{all_counted}
use Rattle.numbered_facts.proofs.store.Store.over.Goals as goal

pub returns-then-equal_sorts-clause-vars : goal.returns-then-equal_sorts-clause-vars
returns-then-equal_sorts-clause-vars c =
    let e : c.self.inside.vars.items ≡ c.args.vars.now = same_sorts c.self.inside.vars.items c.args.vars.now (ap (λ (ks : List Kind). same_kinds ks c.args.vars.now) (sym c.deref.ensures.value) ∙ sym c.equal_sorts.ensures ∙ c.if-equal_sorts.true) in
    let f : c.args.self.now.vars ≡ c.args.vars.now = ap (λ (n : Numbered). n.vars) (sym c.self.view_is) ∙ e in
    λ k. record { terms = c.args.self.now.terms; vars = f k; defs = c.args.self.now.defs }

pub invariant_of-self-then-agree : goal.invariant_of-self-then-agree
invariant_of-self-then-agree c =
    let n = c.width_of-self-inside.result in let ts = c.self.inside.terms in let vs = c.self.inside.vars.items in let ws = c.in_ok-self-inside.field-0.items in let ds = c.self.inside.defs.now in
    let front : take n vs ≡ take n ws = same_front n vs c.args.vars.now c.deref-2.result.now ws c.agree.result c.deref-2.ensures.value c.in_ok-self-inside.ensures c.agree.ensures c.if-agree.true in (
      memos_with ts n vs ds ws ds c.width_of-self-inside.ensures (agree n vs ds ws ds front refl) c.self.inside.forms.slots.items c.self.inside.lefts.slots.items c.self.inside.negations.slots.items c.self.inside.atoms.slots.items c.self.inside.standing.slots.items c.self.inside.bodies.slots.items c.self.inside.sorts.slots.items c.self.inside.replacements.slots.items c.self.inside.tights.slots.items c.self.inside.bodies.slots.items c.self.invariant.0.bodies c.self.invariant.0,
      subst (λ (k : ℕ). AreCounted ts k n) (sym c.len-self-inside.ensures) (all_counted ts n c.width_of-self-inside.ensures),
    )
