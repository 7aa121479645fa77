use Rattle.std.proofs.Common.{◌≡◌, sym, ap, subst, ◌∙◌, ℕ, Option, List, [], map, take}
use Rattle.logic_core.specs.Def.{Def}
use Rattle.numbered_terms.specs.Slots.{AreKept}
use Rattle.numbered_facts.specs.Alike.{head_of, AreCounted}
use Rattle.numbered_facts.specs.Heads.{same_heads}
use Rattle.numbered_facts.specs.Memos.{IsBody}
use Rattle.numbered_facts.proofs.AlikeMemos.{memos_with, none_kept}
use Rattle.numbered_facts.proofs.AlikeSorts.{agree}
use Rattle.numbered_facts.proofs.SameHeads.{heads_equal}
use Rattle.numbered_facts.proofs.SameSorts.{same_front}
use Rattle.numbered_facts.proofs.WidthBelow.{all_counted}
use Rattle.numbered_facts.proofs.kept.Kept.store.Goals as goal

pub invariant_of-result : goal.invariant_of-result
invariant_of-result c =
    let n = c.self.inside.width in let ts = c.self.inside.terms in let vs = c.self.inside.vars.items in let ws = c.in_ok-vars.vars.items in let hs = c.self.inside.heads.items in let ds = c.args.defs.now in
    let front : take n vs ≡ take n ws = same_front n vs c.args.vars.now c.deref.result.now ws c.agree.result c.deref.ensures.value c.in_ok-vars.ensures c.agree.ensures c.if-not-agree.false in
    let heads : map head_of hs ≡ map head_of ds = heads_equal hs ds (ap (λ (es : List Def). same_heads es ds) (sym c.deref-2.ensures.value) ∙ sym c.same_heads.ensures ∙ c.if-not-same_heads.false) in
    let none : AreKept (IsBody ts ds) c.new-bodies.result.slots.items = subst (λ (bs : List (Option (Option ℕ))). AreKept (IsBody ts ds) bs) (sym c.new-bodies.ensures) (none_kept (IsBody ts ds)) in (
      memos_with ts n vs hs ws ds c.self.invariant.1 (agree n vs hs ws ds front heads) c.self.inside.forms.slots.items c.self.inside.lefts.slots.items c.self.inside.negations.slots.items c.self.inside.atoms.slots.items c.self.inside.standing.slots.items [] c.self.inside.sorts.slots.items c.self.inside.replacements.slots.items c.self.inside.tights.slots.items c.new-bodies.result.slots.items none c.self.invariant.0,
      subst (λ (k : ℕ). AreCounted ts k n) (sym c.len-counted.ensures) (all_counted ts n c.self.invariant.1),
    )
