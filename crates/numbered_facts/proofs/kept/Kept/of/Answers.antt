use Rattle.std.proofs.Common.{refl, sym}
use Rattle.numbered_facts.proofs.AlikeMemos.{memos_alike}
use Rattle.numbered_facts.proofs.AlikeSorts.{agree}
use Rattle.numbered_facts.proofs.kept.Kept.of.Goals as goal

pub invariant_of-result : goal.invariant_of-result
invariant_of-result c =
    let n = c.width_of-width.result in let vs = c.store.inside.vars.items in let ds = c.store.inside.defs.now in let hs = c.in_ok-heads.heads.items in (
      memos_alike c.store.inside.terms n vs ds vs hs c.width_of-width.ensures (agree n vs ds vs hs refl (sym c.in_ok-heads.ensures)) c.store.inside.forms.slots.items c.store.inside.lefts.slots.items c.store.inside.negations.slots.items c.store.inside.atoms.slots.items c.store.inside.standing.slots.items c.store.inside.bodies.slots.items c.store.inside.sorts.slots.items c.store.inside.replacements.slots.items c.store.inside.tights.slots.items c.store.invariant.0,
      c.width_of-width.ensures,
    )
