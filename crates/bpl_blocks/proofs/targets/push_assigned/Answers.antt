use Rattle.std.proofs.Common.{◌+◌, ◌++◌, ◌∷◌, [], ℕ, List, map, refl, ap, sym, ◌∙◌, drop}
use Rattle.logic_core.specs.Tree.{Tree}
use Rattle.bpl_blocks.proofs.AssumedClauses.{behind_more, behind_all}
use Rattle.bpl_blocks.proofs.targets.push_assigned.Goals as goal

pub loop-pair-preserved : goal.loop-pair-preserved
loop-pair-preserved c =
    let f : List (ℕ × Tree) → List ℕ = λ ps. map (λ p. p.0) ps in
    let ps = c.args.pairs.now in
    let k = c.loop-pair.pair-index in
    let p = c.pair-item.result in
    ap (λ vs. vs ++ f (drop (k + 1) ps)) c.in_ok-push.ensures.items
    ∙ (sym (behind_more f ps k p c.loop-pair.set.items (p.0 ∷ []) c.loop-pair-test.true c.pair-item.is refl) ∙ c.loop-pair.invariant)

pub returns : goal.returns
returns c =
    behind_all (λ (ps : List (ℕ × Tree)). map (λ p. p.0) ps) c.args.pairs.now c.loop-pair.pair-index c.loop-pair.set.items _ c.loop-pair-test.false refl c.loop-pair.invariant
