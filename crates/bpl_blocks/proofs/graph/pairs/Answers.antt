use Rattle.std.proofs.Common.{◌≡◌, ◌∙◌, ◌+◌, ◌++◌, [], ◌∷◌, ap, sym, refl, ℕ}
use Rattle.std.proofs.lemmas.List.FromFn.{map-range_with_len_more}
use Rattle.bpl_blocks.proofs.graph.pairs.Goals as goal

pub loop-i-preserved : goal.loop-i-preserved
loop-i-preserved c =
    let entry : c.in_ok-entry.entry ≡ c.args.first + c.loop-i.i + c.args.count = c.in_ok-entry.ensures ∙ ap (λ g. g + c.args.count) c.in_ok-global.ensures in
    c.in_ok-push.ensures.items
    ∙ ((λ i. c.loop-i.invariant i ++ (c.in_ok-global.ensures i, entry i) ∷ [])
    ∙ sym (map-range_with_len_more (λ (g : ℕ). (g, g + c.args.count)) c.args.first c.loop-i.i (c.args.first + c.loop-i.i) refl))
